-- What a move of a script leaves: its cues in their order, and then the caller's own step on the words.
use Rattle.std.specs.Prelude.{◌≡◌, ℕ, length, Option, Bool, true, MatchBool}
use Rattle.frame_model.specs.declared.block.FrameBlock.{FrameBlock}
use Rattle.frame_model.specs.declared.place.Place.{Place}
use Rattle.frame_model.specs.Steps.{Kind}
use Rattle.frame_core.specs.Mover.{Loads, Tries, Swaps, HandsOut, HandsIn}
use Rattle.plain_moves.specs.declared.plain.PlainMoves.{PlainMoves}
use Rattle.script_moves.specs.declared.script.stage.Stage.{Stage}
use Rattle.plain_moves.specs.Acts.{plain_block}
use Rattle.plain_moves.specs.Plain.{plain_tick}
use Rattle.plain_moves.specs.PlainState.{mover_by, Loses}
use Rattle.script_moves.specs.ScriptState.{MeetsFirst}

-- the script, the count of its cues that were not made, and the words that it shows are as before
abbrev pub IsSilent : Stage → Stage → Type 0
IsSilent old new =
    (new.cues ≡ old.cues) × (new.begun ≡ old.begun) × (new.skipped ≡ old.skipped)
    × (new.has_stopped ≡ old.has_stopped) × (new.stop ≡ old.stop)

-- all cues of a move were made in their order, and then the caller's own step, which tells no more
pub record PlaysOn (is_exchange : Bool) (Own : PlainMoves → PlainMoves → Type 0) (old new : Stage)
    : Type 0 where
  pub ready : Stage
  pub met : MeetsFirst old.cues.items is_exchange (length old.cues.items) old ready
  pub own : Own ready.plain new.plain
  pub silent : IsSilent ready new

-- The caller's own steps.

-- this word was loaded
abbrev pub LoadsIt : Place → ℕ → PlainMoves → PlainMoves → Type 0
LoadsIt place found old new = Loads plain_tick place found (mover_by old) (mover_by new)

-- the exchange was made, or it was lost and changed nothing but the counts of moves and losses
abbrev pub TriesIt : Kind → ℕ → Bool → PlainMoves → PlainMoves → Type 0
TriesIt kind seen made old new =
    MatchBool made (Tries plain_tick kind seen true (mover_by old) (mover_by new)) (Loses old new)

-- the local word was swapped
abbrev pub SwapsIt : ℕ → Option (ℕ × ℕ) → Option (ℕ × ℕ) → PlainMoves → PlainMoves → Type 0
SwapsIt core put answer old new = Swaps plain_tick core put answer (mover_by old) (mover_by new)

-- the block was handed out
abbrev pub HandsItOut : FrameBlock → FrameBlock → PlainMoves → PlainMoves → Type 0
HandsItOut b held old new = HandsOut plain_tick plain_block b held (mover_by old) (mover_by new)

-- the block was taken in
abbrev pub HandsItIn : FrameBlock → PlainMoves → PlainMoves → Type 0
HandsItIn held old new = HandsIn plain_tick plain_block held (mover_by old) (mover_by new)
