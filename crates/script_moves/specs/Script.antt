-- What a script says of the next move, and what the caller has beside the strangers.
use Rattle.std.specs.Prelude.{◌≡◌, ◌⊎◌, ℕ, zero, suc, ◌+◌, ◌-◌, ◌<◌, ◌≤◌, List, ◌∷◌, Some, Bool, true, false, slice_get}
use Rattle.std.specs.List.{All}
use Rattle.frame_model.specs.declared.block.FrameBlock.{FrameBlock}
use Rattle.frame_model.specs.declared.key.Key.{Key}
use Rattle.frame_model.specs.declared.view.View.{View}
use Rattle.frame_model.specs.Fit.{Fit}
use Rattle.frame_model.specs.Seats.{hand_in, left_by, joined_by}
use Rattle.frame_model.specs.Steps.{Kind, effect, after_load, after_loss}
use Rattle.frame_model.specs.View.{holder}
use Rattle.frame_core.specs.Moves.{hand_out_block}
use Rattle.plain_moves.specs.Plain.{plain_tick, is_plain_exact}
use Rattle.script_moves.specs.declared.script.cue.Cue.{Cue}
use Rattle.script_moves.specs.declared.script.cue.What.TheVariants.{Lose, Stop}

-- the cue is for another move, or changes nothing
abbrev pub IsNotAt : ℕ → Cue → Type 0
IsNotAt at cue = cue.at ≡ at → cue.what ≡ Stop

-- the cue is for an earlier move
abbrev pub IsPast : ℕ → Cue → Type 0
IsPast at cue = cue.at < at

-- no cue that changes anything stands at this move
abbrev pub NoneAt : ℕ → List Cue → Type 0
NoneAt at cues = All (IsNotAt at) cues

-- the script has this cue
abbrev pub HasCue : List Cue → Cue → Type 0
HasCue cues cue = (k : ℕ) × (slice_get cues k ≡ Some cue)

-- a cue that loses stands at this move
abbrev pub LosesAt : ℕ → List Cue → Type 0
LosesAt at cues = (cue : Cue) × (HasCue cues cue × (cue.at ≡ at) × (cue.what ≡ Lose))

-- the cue at place k of the script comes before place i of those for move `at`: it is for an earlier
-- move, or for this one and stands earlier
abbrev pub ComesBefore : ℕ → ℕ → ℕ → Cue → Type 0
ComesBefore at i k cue = (cue.at < at) ⊎ ((cue.at ≡ at) × (k < i))

-- one step of a view's own: a word changed, or was loaded, an exchange was lost, or a block was
-- handed out or taken in
abbrev pub StepsOnce : View → View → Type 0
StepsOnce v w =
    ((kind : Kind) × ((found : ℕ) × (w ≡ effect plain_tick kind found v)))
    ⊎ ((w ≡ after_load plain_tick v)
    ⊎ ((w ≡ after_loss plain_tick v)
    ⊎ ((b : FrameBlock) × ((w ≡ left_by plain_tick (hand_out_block b) v)
    ⊎ (w ≡ joined_by plain_tick hand_in v (holder v.about b))))))

-- the second view came of the first by n steps of its own
abbrev pub StepsTo : ℕ → View → View → Type 0
StepsTo zero v w = w ≡ v
StepsTo (suc n) v w = (u : View) × (StepsTo n v u × StepsOnce u w)

-- the words are those just before the move that a cue Stop names, and of the cues before place i of
-- the next move it is the last that stops. It comes before that place itself, as long as moves are
-- counted exactly, so it names no move that is still to come. The words fit with a view that had made
-- so many moves since the script began, and with others; of it the caller's view of now came by steps
-- of its own
pub record StopsAt (key : Key) (begun : ℕ) (now : View) (i : ℕ) (cues : List Cue) (ws : List ℕ)
    : Type 0 where
  pub cue : Cue
  pub place : ℕ
  pub is_cue : slice_get cues place ≡ Some cue
  pub stops : cue.what ≡ Stop
  pub in_count : cue.at ≤ now.moves - begun
  pub reached : is_plain_exact now.moves → ComesBefore (now.moves - begun) i place cue
  pub last : (k : ℕ) (other : Cue) → slice_get cues k ≡ Some other → other.what ≡ Stop
      → ComesBefore (now.moves - begun) i k other → ComesBefore cue.at (place + 1) k other
  pub caller : View
  pub moves : caller.moves ≡ begun + cue.at
  pub steps : ℕ
  pub since : StepsTo steps caller now
  pub others : List View
  pub shares : ℕ
  pub fit : Fit key shares ws (caller ∷ others)

-- no cue before place i of move `at` stops
abbrev pub NoStop : ℕ → ℕ → List Cue → Type 0
NoStop at i cues = (k : ℕ) (cue : Cue) → slice_get cues k ≡ Some cue → cue.what ≡ Stop
    → ComesBefore at i k cue → ⊥

-- the caller's moves go on from those at which the script began, and once a cue stopped, the words
-- are those of the last that did
pub record ShowsStop (key : Key) (begun : ℕ) (now : View) (i : ℕ) (cues : List Cue)
    (has_stopped : Bool) (ws : List ℕ) : Type 0 where
  pub counted : begun ≤ now.moves
  pub stopped : has_stopped ≡ true → StopsAt key begun now i cues ws
  pub unstopped : has_stopped ≡ false → NoStop (now.moves - begun) i cues
