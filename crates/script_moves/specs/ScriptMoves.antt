-- What a mover by a script has, by its stage, and what its opening, its moves and its stops leave.
use Rattle.std.specs.Prelude.{◌≡◌, ℕ, List, Option, Some, Bool, false, slice_get, length}
use Rattle.std.specs.List.{All}
use Rattle.frame_model.specs.declared.block.FrameBlock.{FrameBlock}
use Rattle.frame_core.specs.Image.{Contents}
use Rattle.frame_core.specs.Mover.{Mover}
use Rattle.script_moves.specs.declared.script.cue.Cue.{Cue}
use Rattle.plain_moves.specs.declared.plain.PlainMoves.{PlainMoves}
use Rattle.plain_moves.specs.declared.plain.party.Party.{Party}
use Rattle.script_moves.specs.declared.script.ScriptMoves.{ScriptMoves}
use Rattle.script_moves.specs.declared.script.stage.Stage.{Stage}
use Rattle.plain_moves.specs.Plain.{IsFresh, IsOutIn}
use Rattle.plain_moves.specs.PlainState.{key_by, words_by, view_by, parties_by, their_outs_by}
use Rattle.script_moves.specs.Plays.{PlaysOn}
use Rattle.script_moves.specs.Script.{NoStop, StopsAt}
use Rattle.script_moves.specs.ScriptState.{at_by, read_by, stop_in, stage_mover}

-- what the script is played on
abbrev pub stage_by : ScriptMoves → Stage
stage_by m = m.stage

-- the words, and what the caller has in flight
abbrev pub plain_by : ScriptMoves → PlainMoves
plain_by m = m.stage.plain

-- how many cues were reached and not made
abbrev pub skipped_by : ScriptMoves → ℕ
skipped_by m = m.stage.skipped

-- the words just before the latest stop, once there was one
abbrev pub stop_by : ScriptMoves → Option Contents
stop_by m = stop_in m.stage

-- the number of the caller's next move since the script began
abbrev pub next_by : ScriptMoves → ℕ
next_by m = at_by m.stage

-- how many moves the caller had made when the script began
abbrev pub begun_by : ScriptMoves → ℕ
begun_by m = m.stage.begun

-- the script
abbrev pub cues_by : ScriptMoves → List Cue
cues_by m = m.stage.cues.items

-- what the strangers have
abbrev pub strangers_by : ScriptMoves → List Party
strangers_by m = parties_by m.stage.plain

-- what the caller's moves have
abbrev pub script_mover : ScriptMoves → Mover (List Cue × ℕ) FrameBlock
script_mover m = stage_mover m.stage

-- all cues of a move were made in their order, and then the caller's own step, which tells no more
abbrev pub Plays : Bool → (PlainMoves → PlainMoves → Type 0) → ScriptMoves → ScriptMoves → Type 0
Plays is_exchange Own old new = PlaysOn is_exchange Own old.stage new.stage

-- the script begins over these moves: eight strangers came, each with one share and nothing in flight,
-- who have handed out no block, and no cue was reached
pub record BeginsScript (plain : PlainMoves) (cues : List Cue) (m : ScriptMoves) : Type 0 where
  pub key : key_by (plain_by m) ≡ key_by plain
  pub view : view_by (plain_by m) ≡ view_by plain
  pub words : words_by (plain_by m) ≡ words_by plain
  pub outs : (plain_by m).outs ≡ plain.outs
  pub reads : (i : ℕ) → read_by (stage_by m) i ≡ slice_get (words_by plain) i
  pub script : cues_by m ≡ cues
  pub at : next_by m ≡ 0
  pub begun : m.stage.begun ≡ (view_by plain).moves
  pub skipped : skipped_by m ≡ 0
  pub missed : m.stage.missed ≡ false
  pub stop : m.stage.has_stopped ≡ false
  pub tells : (script_mover m).words ≡ Some (words_by plain)
  pub eight : length (strangers_by m) ≡ 8
  pub fresh : All IsFresh (strangers_by m)
  pub none_out : (b : FrameBlock) → IsOutIn (their_outs_by (plain_by m)) b → ⊥

-- the last cue Stop of all moves so far, just before whose move these words stood, and the views that
-- they fitted with then
abbrev pub StopOf : ScriptMoves → List ℕ → Type 0
StopOf m ws = StopsAt (key_by (plain_by m)) (begun_by m) (view_by (plain_by m)) 0 (cues_by m) ws

-- these words stood just before the move of the last cue Stop of all moves so far
abbrev pub IsStopOf : ScriptMoves → List ℕ → Type 0
IsStopOf m ws = ∥ StopOf m ws ∥₁

-- no cue Stop was reached
abbrev pub IsUnstopped : ScriptMoves → Type 0
IsUnstopped m = NoStop (next_by m) 0 (cues_by m)
