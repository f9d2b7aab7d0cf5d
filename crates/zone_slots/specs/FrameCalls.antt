-- What takes and gives of single frames that rest with a core leave.
use Rattle.std.specs.Prelude.{◌≡◌, ℕ, ℤ, pos, ◌+ℤ◌, ◌-ℤ◌, ◌<◌, ◌∷◌, ◌++◌, [], List, Result, Ok}
use Rattle.core_frames.specs.Cores.{lent_by}
use Rattle.core_frames.specs.declared.shared.allocator.Core.{Core}
use Rattle.frame_words.specs.declared.fault.TakeFault.{TakeFault}
use Rattle.frame_zones.specs.Stops.{AreStopped}
use Rattle.frame_zones.specs.Uses.{KeepsAll}
use Rattle.frame_zones.specs.Zones.{zone_count, core_at, InEach, AreCoresOf}
use Rattle.frame_zones.specs.declared.image.ZoneImage.{ZoneImage}
use Rattle.frame_zones.specs.declared.zones.ZoneCore.{ZoneCore}
use Rattle.zone_slots.specs.Blocks.{IsRightThrough}
use Rattle.zone_slots.specs.Calls.{zones_of, SharesOne, KeepsCore, KeepsAllInEach, RefusesBlock}
use Rattle.zone_slots.specs.Resting.{one_in, lent_besides, BringsNone}
use Rattle.zone_slots.specs.Uses.{EachLendsSame, IsRefusedBlock}
use Rattle.zone_slots.specs.declared.core_state.CoreState.{CoreState}
use Rattle.zone_slots.specs.declared.single_frame.SingleFrame.{SingleFrame}

-- what rests with the core, the one that came first in front
abbrev pub resting_in : CoreState → List SingleFrame
resting_in s = s.rest.list.items

-- how many come to rest next, where none does
abbrev pub next_batch : CoreState → ℕ
next_batch s = s.rest.next

-- the same frames rest with the core
abbrev pub KeepsRest : CoreState → CoreState → Type 0
KeepsRest s t = resting_in t ≡ resting_in s

-- both share one memory and its slots; the same frames rest with the core, and as many come to rest next, where none
-- does
pub record LeavesRest (s t : CoreState) : Type 0 where
  pub shared : SharesOne s t
  pub rest : KeepsRest s t
  pub next : next_batch t ≡ next_batch s

-- it is the right to a single frame of the zones of the core
abbrev pub IsSingleFor : CoreState → SingleFrame → Type 0
IsSingleFor s f = IsRightThrough s f.frame 0 f.seat.table_id f.seat.me

-- how many blocks of a zone more the core handed out than came in, without those that rest with it
abbrev pub lent_out_in : CoreState → ℕ → Core → ℤ
lent_out_in s z x = lent_besides (zones_of s) s.core (resting_in s) z x

-- one block more is lent out in the zone of the frame of this number, and as many as before in each other; what the
-- core keeps in each is as before
pub record LendsOneMore (n : ℕ) (s t : CoreState) : Type 0 where
  pub lent : (z : ℕ) (x : Core) → z < zone_count (zones_of s)
      → lent_out_in t z x ≡ lent_out_in s z x +ℤ pos (one_in (zones_of s) z n)
  pub kept : KeepsAllInEach s t

-- one block less is lent out in the zone of the frame of this number, and as many as before in each other; what the
-- core keeps in each is as before
pub record LendsOneLess (n : ℕ) (s t : CoreState) : Type 0 where
  pub lent : (z : ℕ) (x : Core) → z < zone_count (zones_of s)
      → lent_out_in t z x ≡ lent_out_in s z x -ℤ pos (one_in (zones_of s) z n)
  pub kept : KeepsAllInEach s t

-- as many are lent out in each zone as before, and what the core keeps there is as before
pub record LendsAsManyInEach (s t : CoreState) : Type 0 where
  pub lent : (z : ℕ) (x : Core) → z < zone_count (zones_of s) → lent_out_in t z x ≡ lent_out_in s z x
  pub kept : KeepsAllInEach s t

-- the right to a single frame left the core
pub record TakesSingle (s t : CoreState) (f : SingleFrame) : Type 0 where
  pub is_single : IsSingleFor s f
  pub lent : LendsOneMore f.frame s t

-- the answer is the frame that came last, which rests no more; the core is as it was in each zone
pub record TakesLastFrame (answer : Result SingleFrame TakeFault) (s t : CoreState) : Type 0 where
  pub frame : SingleFrame
  pub is_it : answer ≡ Ok frame
  pub last : resting_in s ≡ resting_in t ++ frame ∷ []
  pub core : KeepsCore s t

-- the frame came to rest last; the core is as it was in each zone
pub record RestsLast (f : SingleFrame) (s t : CoreState) : Type 0 where
  pub last : resting_in t ≡ resting_in s ++ f ∷ []
  pub core : KeepsCore s t

-- none rested, and a take of one through the core was refused
pub record RefusesOne (s t : CoreState) (fault : TakeFault) : Type 0 where
  pub why : RefusesBlock 0 s t fault
  pub none : resting_in s ≡ []
  pub none_then : resting_in t ≡ []

-- why no single frame was taken: none rested, a batch brought none, and a take of one through the core as it was
-- then was refused; each zone lends as many as before, and what the core keeps there is as before
pub record RefusesSingle (s t : CoreState) (fault : TakeFault) : Type 0 where
  pub core : ZoneCore
  pub batch : BringsNone (zones_of s) (next_batch s) s.core core
  pub why : IsRefusedBlock (zones_of s) 0 core t.core fault
  pub lent : EachLendsSame (zones_of s) s.core t.core
  pub kept : KeepsAllInEach s t
  pub none : resting_in s ≡ []
  pub none_then : resting_in t ≡ []

-- all that rested went back through the core, and what it keeps in each zone is as before
pub record HasGivenRest (s : CoreState) (d : ZoneCore) : Type 0 where
  pub are_cores : AreCoresOf (zones_of s) d
  pub lent : (z : ℕ) (x : Core) → z < zone_count (zones_of s) → lent_by (core_at d z x) ≡ lent_out_in s z x
  pub kept : InEach (zones_of s) KeepsAll s.core d

-- these are the images of all zones, once all that rested has gone back
pub record StopsWithout (s : CoreState) (images : List ZoneImage) : Type 0 where
  pub core : ZoneCore
  pub rest : HasGivenRest s core
  pub stopped : AreStopped (zones_of s) core images
