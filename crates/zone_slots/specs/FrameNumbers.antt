-- What takes and gives of single frames by number leave, of which some rest with a core.
use Rattle.std.specs.Prelude.{◌≡◌, ◌⊎◌, ℕ, ◌<◌, ◌∷◌, ◌++◌, [], length, drop, Some}
use Rattle.frame_model.specs.Block.{block}
use Rattle.frame_words.specs.declared.fault.TakeFault.{TakeFault}
use Rattle.frame_words.specs.declared.fault.TakeFault.TheVariants.{Contended}
use Rattle.zone_slots.specs.Calls.{zones_of, last_laid, KeepsCore, CountsNone, CountsOne}
use Rattle.zone_slots.specs.FrameCalls.{resting_in, next_batch, KeepsRest, RestsLast, RefusesSingle}
use Rattle.zone_slots.specs.FrameCalls.{LendsOneMore, LendsOneLess, LendsAsManyInEach}
use Rattle.zone_slots.specs.Looks.{HasBlockOf}
use Rattle.zone_slots.specs.Resting.{most_resting, flush_frames}
use Rattle.zone_slots.specs.declared.core_state.CoreState.{CoreState}
use Rattle.zone_slots.specs.declared.single_frame.SingleFrame.{SingleFrame}

-- the frame of this number came to rest last, and rests no more
pub record LeavesLast (frame : ℕ) (s t : CoreState) : Type 0 where
  pub single : SingleFrame
  pub number : single.frame ≡ frame
  pub last : resting_in s ≡ resting_in t ++ single ∷ []

-- the single frame was laid down at its slot; the core is as it was in each zone, and the same frames rest
pub record LaysDown (frame : ℕ) (s t : CoreState) : Type 0 where
  pub laid : last_laid t ≡ Some (block frame 0)
  pub core : KeepsCore s t
  pub rest : KeepsRest s t

-- the single frame found no slot, and is counted; it is lent out no more, and the same frames rest
pub record GoesBack (frame : ℕ) (s t : CoreState) : Type 0 where
  pub counted : CountsOne s t
  pub lent : LendsOneLess frame s t
  pub rest : KeepsRest s t

-- a single frame was taken through the core, and this very one was laid down at its slot: where some rested, the one
-- that came last, and the core is as it was in each zone; where none did, fewer rest then than were asked for
pub record TakesNumber (frame : ℕ) (s t : CoreState) : Type 0 where
  pub is_frame : HasBlockOf (zones_of s) 0 frame
  pub laid : last_laid t ≡ Some (block frame 0)
  pub lent : LendsOneMore frame s t
  pub rested : 0 < length (resting_in s) → LeavesLast frame s t × KeepsCore s t
  pub few : resting_in s ≡ [] → length (resting_in t) < next_batch s

-- the single frame that was taken found no slot, and is counted; as many are lent out in each zone as before
pub record FindsNoPlace (s t : CoreState) : Type 0 where
  pub counted : CountsOne s t
  pub lent : LendsAsManyInEach s t
  pub rested : 0 < length (resting_in s) → (frame : ℕ) × LeavesLast frame s t
  pub few : resting_in s ≡ [] → length (resting_in t) < next_batch s

-- why no single frame was taken by number: as none is that leaves with its right, and nothing is counted; or the one
-- that was taken found no slot
abbrev pub RefusesNumber : CoreState → CoreState → TakeFault → Type 0
RefusesNumber s t fault = (RefusesSingle s t fault × CountsNone s t) ⊎ ((fault ≡ Contended) × FindsNoPlace s t)

-- this very single frame was given through the core, and came to rest last; where there was no room, the 8 that came
-- first went back before
pub record GivesNumber (frame : ℕ) (s t : CoreState) : Type 0 where
  pub is_frame : HasBlockOf (zones_of s) 0 frame
  pub lent : LendsOneLess frame s t
  pub single : SingleFrame
  pub number : single.frame ≡ frame
  pub rests : length (resting_in s) < most_resting → RestsLast single s t
  pub full : length (resting_in s) ≡ most_resting
      → resting_in t ≡ drop flush_frames (resting_in s) ++ single ∷ []

-- nothing was given: the core is as it was in each zone, and the same frames rest
pub record GivesNone (s t : CoreState) : Type 0 where
  pub core : KeepsCore s t
  pub rest : KeepsRest s t
