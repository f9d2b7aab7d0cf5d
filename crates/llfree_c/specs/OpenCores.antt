-- What an opening of cores leaves behind handles.
use Rattle.std.specs.Prelude.{◌≡◌, ◌⊎◌, ℕ, ◌<◌, Bool, List, [], ◌∷◌, ◌++◌, Option, Some, length, map, reverse, slice_index_or, false}
use Rattle.std.specs.List.{All}
use Rattle.std.specs.declared.boxed.Box.{Box}
use Rattle.frame_words.specs.Geometry.{most_cores}
use Rattle.frame_zones.specs.Openings.{HaveHomes, home_for}
use Rattle.frame_zones.specs.Spans.{place_of_span}
use Rattle.frame_zones.specs.declared.spans.Span.{Span}
use Rattle.zone_slots.specs.Cuts.{MayBeHeldBack}
use Rattle.zone_slots.specs.Layouts.{Stretch, AreEven}
use Rattle.zone_slots.specs.Openings.{LieAt, AreListsIn, Shares, IsUnusedState, parts_from_last}
use Rattle.zone_slots.specs.ZoneSpans.{AreSpansOf, MayBeUsed}
use Rattle.zone_slots.specs.declared.core_state.CoreState.{CoreState}
use Rattle.zone_slots.specs.declared.memory.Memory.{Memory}
use Rattle.llfree_c.specs.Openings.{pairs_of, IsUnopenedEven, IsUnopenedIn}
use Rattle.llfree_c.specs.Status.{not_closed, bad_geometry}
use Rattle.llfree_c.specs.SeenCores.{OnCore}
use Rattle.llfree_c.specs.declared.ranges.FrameRange.{FrameRange}
use Rattle.llfree_c.specs.declared.core_handle.CoreHandle.{CoreHandle}

-- nothing is behind the handle
abbrev pub IsClosedHandle : CoreHandle → Type 0
IsClosedHandle h = h.live ≡ false

-- the core behind the handle has its zones and their slots from here
abbrev pub IsCoreBehind : Memory → CoreHandle → Type 0
IsCoreBehind m h = OnCore (Shares m) h.state.value

-- the memory has these zones, each for so many cores, and its opening held back just those of their
-- frames that the ranges have
pub record HasZones (cores : ℕ) (zones ranges : List Stretch) (m : Memory) : Type 0 where
  pub used : MayBeUsed cores zones
  pub held_back : MayBeHeldBack zones ranges
  pub spans : List Span
  pub are_spans : AreSpansOf cores zones ranges spans
  pub lie : LieAt cores (map place_of_span spans) m.zones

-- the core behind the handle lends no block of any zone, and keeps none
abbrev pub IsUnusedBehind : CoreHandle → Type 0
IsUnusedBehind h = OnCore IsUnusedState h.state.value

-- the core of number k is behind handle k: its home is that core's, of cores that lie evenly among the zones
abbrev pub AreCoresInOrder : (zones : ℕ) → List CoreHandle → Type 0
AreCoresInOrder zones handles = (k : ℕ) (h : CoreHandle) → k < length handles
    → OnCore (λ s. s.core.home ≡ home_for k (length handles) zones) (slice_index_or handles k h).state.value

-- one memory of these zones, with slots for its blocks or without, is shared by the cores behind all of the
-- handles, in their order, none of which was used yet: no block is out
abbrev pub OpensIn : (has_slots : Bool) → (zones ranges : List Stretch) → List CoreHandle → Type 0
OpensIn has_slots zones ranges handles =
    (m : Memory) × HasZones (length handles) zones ranges m × AreListsIn has_slots m.zones m.slots.items
    × All (IsCoreBehind m) handles × AreCoresInOrder (length zones) handles × All IsUnusedBehind handles

-- it is so of zones and ranges that C passed
abbrev pub OpensZones : (has_slots : Bool) → (zones ranges : List FrameRange) → List CoreHandle → Type 0
OpensZones has_slots zones ranges handles = OpensIn has_slots (pairs_of zones) (pairs_of ranges) handles

-- it is so of the zones of so many frames without a hole
abbrev pub OpensCores : (has_slots : Bool) → ℕ → List FrameRange → List CoreHandle → Type 0
OpensCores has_slots frames ranges handles =
    (zones : List Stretch) × AreEven frames zones × OpensIn has_slots zones (pairs_of ranges) handles

-- the cores in the boxes
abbrev pub states_in : {Z : Type 0} → List (Box CoreState Z) → List CoreState
states_in cores = map (λ b. b.value) cores

-- the core in the box has its zones and their slots from here
abbrev pub BoxShares : {Z : Type 0} → Memory → Box CoreState Z → Type 0
BoxShares m b = Shares m b.value

-- the core in the box lends no block of any zone, and keeps none
abbrev pub IsBoxUnused : {Z : Type 0} → Box CoreState Z → Type 0
IsBoxUnused b = IsUnusedState b.value

-- one memory of these zones, with slots for its blocks or without, is shared by so many cores, none of which
-- was used yet
pub record ShareOne {Z : Type 0} (has_slots : Bool) (as_many : ℕ) (zones ranges : List Stretch)
    (cores : List (Box CoreState Z)) : Type 0 where
  pub count : length cores ≡ as_many
  pub memory : Memory
  pub zones_are : HasZones as_many zones ranges memory
  pub slots : AreListsIn has_slots memory.zones memory.slots.items
  pub share : All (BoxShares memory) cores
  pub homes : HaveHomes as_many (length zones) (parts_from_last (states_in cores))
  pub unused : All IsBoxUnused cores

-- it is so of zones and ranges that C passed
abbrev pub ShareZones : {Z : Type 0} → (has_slots : Bool) → ℕ → (zones ranges : List FrameRange)
    → List (Box CoreState Z) → Type 0
ShareZones has_slots as_many zones ranges cores = ShareOne has_slots as_many (pairs_of zones) (pairs_of ranges) cores

-- it is so of the zones of so many frames without a hole
abbrev pub ShareEven : {Z : Type 0} → (has_slots : Bool) → (as_many frames : ℕ) → List FrameRange
    → List (Box CoreState Z) → Type 0
ShareEven has_slots as_many frames ranges cores =
    (zones : List Stretch) × AreEven frames zones × ShareOne has_slots as_many zones (pairs_of ranges) cores

-- the core behind the handle, if one is
abbrev pub core_behind : CoreHandle → Option CoreState
core_behind h = h.state.value

-- just these cores are behind the handles, the last one first
abbrev pub AreHandedTo : {Z : Type 0} → List (Box CoreState Z) → List CoreHandle → Type 0
AreHandedTo cores handles = map core_behind handles ≡ map Some (reverse (states_in cores))

-- the last core was taken from the boxes, and is behind the handle
pub record IsTakenFor {Z : Type 0} (h : CoreHandle) (old new : List (Box CoreState Z)) : Type 0 where
  pub core : CoreState
  pub boxes : states_in old ≡ states_in new ++ core ∷ []
  pub behind : core_behind h ≡ Some core

-- a handle was open
abbrev pub IsOneOpen : List CoreHandle → ℕ → Type 0
IsOneOpen handles status = (status ≡ not_closed) × ¬ All IsClosedHandle handles

-- why there are no cores for these handles: one was open, or there are none or too many
abbrev pub AreNotFor : List CoreHandle → ℕ → Type 0
AreNotFor handles status =
    IsOneOpen handles status
    ⊎ ((status ≡ bad_geometry) × ((length handles ≡ 0) ⊎ (most_cores < length handles)))

-- why no cores were opened behind these handles: one was open, zones of so many frames are not for so many
-- cores, none of them may hold the ranges back, or memory was wanting
abbrev pub HasNoCores : ℕ → List FrameRange → List CoreHandle → ℕ → Type 0
HasNoCores frames ranges handles status =
    IsOneOpen handles status ⊎ IsUnopenedEven frames (length handles) (pairs_of ranges) status

-- why no cores of these zones were: one was open, zones may not lie so for so many cores, they may not hold the
-- ranges back, or memory was wanting
abbrev pub HasNoCoresIn : (zones ranges : List FrameRange) → List CoreHandle → ℕ → Type 0
HasNoCoresIn zones ranges handles status =
    IsOneOpen handles status ⊎ IsUnopenedIn (length handles) (pairs_of zones) (pairs_of ranges) status
