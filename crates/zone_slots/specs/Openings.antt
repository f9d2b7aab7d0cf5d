-- What the cores of an opening of zones share.
use Rattle.std.specs.Prelude.{◌≡◌, ◌⊎◌, ℕ, ◌<◌, ◌≤◌, Bool, true, false, List, [], length, map, reverse, slice_index_or, vec_capacity}
use Rattle.std.specs.Arc.{arc_value}
use Rattle.std.specs.List.{All}
use Rattle.frame_words.specs.declared.fault.Fault.{Fault}
use Rattle.frame_words.specs.declared.fault.Fault.TheVariants.{BadRange, NoMemory}
use Rattle.frame_model.specs.declared.key.Key.{Key}
use Rattle.core_frames.specs.declared.shared.allocator.Allocator.{Allocator}
use Rattle.core_frames.specs.Cores.{memory_of}
use Rattle.frame_slots.specs.SlotLists.{HasRoomFor, HasSlotsBeside, IsListOf}
use Rattle.frame_slots.specs.Slots.{IsUnused, IsUsedAsBefore}
use Rattle.frame_slots.specs.declared.slots.SlotList.{SlotList}
use Rattle.frame_zones.specs.Openings.{AreAt, HaveHomes}
use Rattle.frame_zones.specs.Spans.{Place, place_of_span, end_of_place, MayBeZones, HoldsLawful}
use Rattle.frame_zones.specs.Zones.{zone_count, zone_at, InEach, AreCoresOf}
use Rattle.frame_zones.specs.declared.spans.Span.{Span}
use Rattle.frame_zones.specs.declared.zones.Zones.{Zones}
use Rattle.frame_zones.specs.declared.zones.ZoneCore.{ZoneCore}
use Rattle.zone_slots.specs.Layouts.{most_numbers}
use Rattle.zone_slots.specs.declared.core_state.CoreState.{CoreState}
use Rattle.zone_slots.specs.declared.memory.Memory.{Memory}

-- the zones lie at these places, each with so many cores
pub record LieAt (as_many : ℕ) (places : List Place) (zs : Zones) : Type 0 where
  pub lawful : MayBeZones as_many places
  pub count : zone_count zs ≡ length places
  pub same_cores : zs.cores ≡ as_many
  pub are_at : AreAt places zs.firsts.items zs.zones.items

-- the core has its zones and their slots from here
abbrev pub Shares : Memory → CoreState → Type 0
Shares m s = arc_value s.shared ≡ m

-- each block of the memory has a slot, but those with a frame that its opening held back, and there is room
-- for as many as it has blocks; or there is room for no slot
abbrev pub HasSlots : Bool → Key → SlotList → Type 0
HasSlots true key list = HasRoomFor key.frames list × HasSlotsBeside key.frames key.ranges list
HasSlots false key list = vec_capacity list.list ≡ 0

-- the list is one of the zone's slots, with all or with none
pub record IsListIn (has_slots : Bool) (zs : Zones) (z : ℕ) (list : SlotList) : Type 0 where
  pub is_list : (a : Allocator) → IsListOf (zone_at zs z a) list
  pub slots : (a : Allocator) → HasSlots has_slots (memory_of (zone_at zs z a)) list

-- there is such a list for each zone
pub record AreListsIn (has_slots : Bool) (zs : Zones) (lists : List SlotList) : Type 0 where
  pub count : length lists ≡ zone_count zs
  pub each : (z : ℕ) (list : SlotList) → z < zone_count zs
      → IsListIn has_slots zs z (slice_index_or lists z list)

-- the core lends and keeps what it did before, in each zone
abbrev pub IsUsedAlike : Zones → ZoneCore → ZoneCore → Type 0
IsUsedAlike zs c d = InEach zs (λ _ x y. IsUsedAsBefore x y) c d

-- the core lends no block of any zone, and keeps none
abbrev pub IsUnusedCore : ZoneCore → Type 0
IsUnusedCore c = All IsUnused c.cores.items

-- the same of a core with what all share, with which no frame rests
abbrev pub IsUnusedState : CoreState → Type 0
IsUnusedState s = IsUnusedCore s.core × (s.rest.list.items ≡ [])

-- the span ends where frames have numbers
abbrev pub HasNumbers : Span → Type 0
HasNumbers s = end_of_place (place_of_span s) ≤ most_numbers

-- zones may be opened like this: they may lie so, with a number for each frame, and may hold back
-- what each of them is to
pub record MayBeOpened (as_many : ℕ) (spans : List Span) : Type 0 where
  pub lie : MayBeZones as_many (map place_of_span spans)
  pub numbers : All HasNumbers spans
  pub lawful : All HoldsLawful spans

-- the zones hold back what the spans say
pub record HoldBack (spans : List Span) (zs : Zones) : Type 0 where
  pub count : zone_count zs ≡ length spans
  pub each : (z : ℕ) (s : Span) (a : Allocator) → z < zone_count zs
      → (memory_of (zone_at zs z a)).ranges ≡ (slice_index_or spans z s).ranges.items

-- why an opening was refused: zones may not be opened like this; or there is not enough memory
abbrev pub IsNoOpening : ℕ → List Span → Fault → Type 0
IsNoOpening cores spans fault =
    ((fault ≡ BadRange) × ¬ MayBeOpened cores spans) ⊎ ((fault ≡ NoMemory) × MayBeOpened cores spans)

-- the cores belong to these zones, and none was used yet
pub record AreUnusedIn (zs : Zones) (cs : List ZoneCore) : Type 0 where
  pub are_cores : All (AreCoresOf zs) cs
  pub unused : All IsUnusedCore cs

-- the cores' parts in zones, those of the last core first
abbrev pub parts_from_last : List CoreState → List ZoneCore
parts_from_last states = map (λ s. s.core) (reverse states)

-- the homes are as they were
abbrev pub HaveSameHomes : (old new : List ZoneCore) → Type 0
HaveSameHomes old new = (k : ℕ) (c : ZoneCore) → k < length new
    → (slice_index_or new k c).home ≡ (slice_index_or old k c).home

-- these are all cores of one memory whose zones lie at these places, with slots or without, each with the
-- home of its number, the last one first; and none was used yet
pub record AreAllCoresOf (has_slots : Bool) (as_many : ℕ) (places : List Place) (states : List CoreState)
    : Type 0 where
  pub count : length states ≡ as_many
  pub one : (m : Memory) × LieAt as_many places m.zones
      × AreListsIn has_slots m.zones m.slots.items × All (Shares m) states
  pub homes : HaveHomes as_many (length places) (parts_from_last states)
  pub unused : All IsUnusedState states
