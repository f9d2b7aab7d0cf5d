-- What moves by a script have, and what its cues and each half of a move leave.
use Rattle.std.specs.Prelude.{◌≡◌, ◌≢◌, ◌⊎◌, ℕ, ◌+◌, ◌-◌, ◌<◌, min, List, Option, Some, None, if◌then◌else◌, Bool, true, MatchBool, slice_get, slice_index, zero, suc}
use Rattle.std.specs.List.{All}
use Rattle.frame_model.specs.declared.block.FrameBlock.{FrameBlock}
use Rattle.frame_core.specs.Image.{Contents}
use Rattle.frame_model.specs.Steps.{after_loss}
use Rattle.frame_core.specs.Moves.{ReadsBut}
use Rattle.frame_core.specs.Mover.{Mover}
use Rattle.plain_moves.specs.declared.act.Act.{Act}
use Rattle.script_moves.specs.declared.script.cue.Cue.{Cue}
use Rattle.script_moves.specs.declared.script.cue.What.{What}
use Rattle.script_moves.specs.declared.script.cue.What.TheVariants.{Lose, Stranger, Stop}
use Rattle.plain_moves.specs.declared.plain.PlainMoves.{PlainMoves}
use Rattle.script_moves.specs.declared.script.stage.Stage.{Stage}
use Rattle.plain_moves.specs.Plain.{plain_tick, IsIdleParty, IsOutIn}
use Rattle.plain_moves.specs.PlainState.{key_by, words_by, view_by, moves_made, parties_by, IsStill, IsUnmoved}
use Rattle.plain_moves.specs.Acts.{TheyAct}
use Rattle.plain_moves.specs.Allowed.{TheyMayAct}
use Rattle.script_moves.specs.Script.{IsPast, NoneAt, LosesAt, ShowsStop}

-- how many moves the caller has made since the script began
abbrev pub at_by : Stage → ℕ
at_by m = moves_made m.plain - m.begun

-- the words just before the latest stop, once there was one
abbrev pub stop_in : Stage → Option Contents
stop_in m = if m.has_stopped then Some m.stop else None

-- what the caller last found each word to be
abbrev pub read_by : Stage → ℕ → Option ℕ
read_by m i = slice_get m.read.items i

-- no cue is left, and no stranger has anything in flight
pub record IsOver (at : ℕ) (cues : List Cue) (m : PlainMoves) : Type 0 where
  pub past : All (IsPast at) cues
  pub idle : All IsIdleParty (parties_by m)

-- what a mover by a script has
abbrev pub scripted : PlainMoves → List Cue → List ℕ → ℕ → Bool → Mover (List Cue × ℕ) FrameBlock
scripted plain cues read begun missed = record {
  tie = (cues, begun);
  key = key_by plain;
  view = view_by plain;
  read = λ i. slice_get read i;
  words = Some (words_by plain);
  recalled = Some (words_by plain);
  missed = missed;
  is_undisturbed = NoneAt (moves_made plain - begun) cues;
  is_alone = IsOver (moves_made plain - begun) cues plain;
  loses_at_will = LosesAt (moves_made plain - begun) cues;
  is_out = λ b. IsOutIn plain.outs.items b;
}

-- what the caller's moves have
abbrev pub stage_mover : Stage → Mover (List Cue × ℕ) FrameBlock
stage_mover m = scripted m.plain m.cues.items m.read.items m.begun m.missed

-- nobody but the caller changed anything
pub record IsQuiet (old new : PlainMoves) : Type 0 where
  pub words : new.words ≡ old.words
  pub them : new.them ≡ old.them

-- the caller knows what it did, of the same script
pub record IsUntold (old new : Stage) : Type 0 where
  pub cues : new.cues ≡ old.cues
  pub read : new.read ≡ old.read
  pub begun : new.begun ≡ old.begun
  pub missed : new.missed ≡ old.missed

-- nothing but the plain moves has changed
pub record IsButPlain (old new : Stage) : Type 0 where
  pub untold : IsUntold old new
  pub skipped : new.skipped ≡ old.skipped
  pub stop : new.stop ≡ old.stop
  pub has_stopped : new.has_stopped ≡ old.has_stopped

-- one cue more was not made; the count stops at 2 ^ 32 - 1
abbrev pub one_skipped : ℕ → ℕ
one_skipped n = min (n + 1) 4294967295

-- a stranger of this number may make the act
abbrev pub StrangerMay : ℕ → Act → PlainMoves → Type 0
StrangerMay who act m = (who < 8) × TheyMayAct who act m

-- a cue is counted exactly where it is not made: a loss at a move that is no exchange, and an act
-- that its conditions do not allow, of which nothing is left; an act that they allow is made
abbrev pub CountsCue : What → Bool → Stage → Stage → Type 0
CountsCue Lose is_exchange old new =
    MatchBool is_exchange (new.skipped ≡ old.skipped) (new.skipped ≡ one_skipped old.skipped)
CountsCue (Stranger who act) is_exchange old new =
    ((new.skipped ≡ old.skipped)
    × (StrangerMay who act old.plain × TheyAct who act old.plain new.plain))
    ⊎ ((new.skipped ≡ one_skipped old.skipped)
    × ((StrangerMay who act old.plain → ⊥) × IsUnmoved old.plain new.plain))
CountsCue Stop is_exchange old new = new.skipped ≡ old.skipped

-- the words were copied
pub record Copies (old new : Stage) : Type 0 where
  pub plain : new.plain ≡ old.plain
  pub has_stopped : new.has_stopped ≡ true
  pub words : new.stop.words ≡ words_by old.plain

-- the words that are shown are as before
pub record ShowsSame (old new : Stage) : Type 0 where
  pub has_stopped : new.has_stopped ≡ old.has_stopped
  pub stop : new.stop ≡ old.stop

-- the cue happens: only a stranger changes words, only a stop copies them, and what is not made is
-- counted
pub record CueHappens (cue : Cue) (is_exchange : Bool) (old new : Stage) : Type 0 where
  pub still : IsStill old.plain new.plain
  pub untold : IsUntold old new
  pub counts : CountsCue cue.what is_exchange old new
  pub loses : cue.what ≡ Lose → new.plain ≡ old.plain
  pub stops : cue.what ≡ Stop → Copies old new
  pub goes_on : cue.what ≢ Stop → ShowsSame old new

-- the cue happens where it is for the next move; where it is not, nothing changes
pub record Meets (cue : Cue) (is_exchange : Bool) (old new : Stage) : Type 0 where
  pub here : cue.at ≡ at_by old → CueHappens cue is_exchange old new
  pub passed : cue.at ≢ at_by old → new ≡ old

-- the cue loses the next move, an exchange
abbrev pub LosesBy : Cue → Bool → Stage → Type 0
LosesBy cue is_exchange m = (cue.at ≡ at_by m) × ((is_exchange ≡ true) × (cue.what ≡ Lose))

-- the cue at this place of the script was met
abbrev pub MeetsNext : List Cue → Bool → ℕ → Stage → Stage → Type 0
MeetsNext cues is_exchange place old new =
    (cue : Cue) × ((slice_get cues place ≡ Some cue) × Meets cue is_exchange old new)

-- the first n cues of the script were met, one after another, in their order
abbrev pub MeetsFirst : List Cue → Bool → ℕ → Stage → Stage → Type 0
MeetsFirst cues is_exchange zero old new = new ≡ old
MeetsFirst cues is_exchange (suc n) old new =
    (between : Stage) × (MeetsFirst cues is_exchange n old between
    × MeetsNext cues is_exchange n between new)

-- the script shows the words of the last stop before place i of the next move
abbrev pub ShowsTo : ℕ → Stage → Type 0
ShowsTo i m =
    ∥ ShowsStop (key_by m.plain) m.begun (view_by m.plain) i m.cues.items m.has_stopped m.stop.words ∥₁

-- all cues of the next move were made, and the caller's part is as before
pub record IsReady (old new : Stage) : Type 0 where
  pub still : IsStill old.plain new.plain
  pub untold : IsUntold old new
  pub quiet : NoneAt (at_by old) old.cues.items → IsQuiet old.plain new.plain

-- all cues of an exchange were made, and it was lost
pub record IsLost (place seen : ℕ) (old new : Stage) : Type 0 where
  pub key : key_by new.plain ≡ key_by old.plain
  pub view : view_by new.plain ≡ after_loss plain_tick (view_by old.plain)
  pub outs : new.plain.outs ≡ old.plain.outs
  pub cues : new.cues ≡ old.cues
  pub begun : new.begun ≡ old.begun
  pub missed : new.missed ≡ true
  pub reads : ReadsBut place (read_by old) (read_by new)
  pub found : ℕ
  pub here : read_by new place ≡ Some found
  pub lost : LosesAt (at_by old) old.cues.items ⊎ (found ≢ seen)
  pub quiet : NoneAt (at_by old) old.cues.items
      → (slice_index (words_by old.plain) place ≢ seen) × IsQuiet old.plain new.plain

-- the caller's own step was made, and it found the word of that place
pub record FindsWord (place : ℕ) (old new : Stage) : Type 0 where
  pub plain : new.plain ≡ old.plain
  pub cues : new.cues ≡ old.cues
  pub begun : new.begun ≡ old.begun
  pub missed : new.missed ≡ old.missed
  pub reads : ReadsBut place (read_by old) (read_by new)
