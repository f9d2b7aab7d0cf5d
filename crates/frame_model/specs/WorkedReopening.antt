-- A worked reopening: words that were in use before, an adoption, and a stop, in numbers.
use Rattle.std.specs.Prelude.{◌≡◌, [], ◌∷◌}
use Rattle.frame_model.specs.declared.key.Key.{Key}
use Rattle.frame_model.specs.Key.{IsKey}
use Rattle.frame_model.specs.Block.{block}
use Rattle.frame_model.specs.Seats.{part_ground}
use Rattle.frame_model.specs.Events.{cuts, LeadsTo}
use Rattle.frame_model.specs.Openings.{opened, reopener, IsReopening}
use Rattle.frame_model.specs.Stops.{Moment, Steps, Passes, unsealed, stopped, known_at, lost_frames, AreHeldIn, reopened_moment, StaysKnown}
use Rattle.frame_model.specs.WorkedRuns.{one_child}
use Rattle.frame_model.specs.WorkedStops.{two_held, adopts_half}

-- a memory of one child that is opened again
abbrev pub one_again : Key
one_again = unsealed one_child

-- 128 frames are held as it opens, and of these somebody remembers the first 64
abbrev pub reopens : Moment
reopens = reopened_moment one_again two_held 1 (block 0 6 ∷ [])

-- The ground parts off, half of the remembered block is adopted, and all threads stop: the block that was adopted
-- and the rest that is remembered are known, and the 64 frames that nobody remembered first stay the only ones lost.
pub record ReopenAdoptStop : Type 0 where
  pub is_key : IsKey one_again
  pub reopening : IsReopening one_again two_held
  pub remembers : AreHeldIn one_again two_held (block 0 6 ∷ [])
  pub parts_off : LeadsTo one_again (opened two_held (reopener one_again two_held 1)) (cuts 0 part_ground ∷ []) reopens.state
  pub known_first : known_at reopens ≡ block 0 6 ∷ []
  pub lost_first : lost_frames reopens ≡ 64
  -- the moment before the stop
  pub adopted : Moment
  pub adopts : Steps adopts_half reopens adopted
  pub remembered : adopted.remembered ≡ block 32 5 ∷ []
  pub known_between : known_at adopted ≡ block 0 5 ∷ block 32 5 ∷ []
  -- the moment after it
  pub passes : Passes reopens (stopped adopted two_held)
  pub once : (stopped adopted two_held).stops ≡ 1
  pub remembered_then : (stopped adopted two_held).remembered ≡ block 0 5 ∷ block 32 5 ∷ []
  pub known : known_at (stopped adopted two_held) ≡ block 0 5 ∷ block 32 5 ∷ []
  pub lost : lost_frames (stopped adopted two_held) ≡ 64
  pub stays : StaysKnown reopens (stopped adopted two_held)
