-- A zone and the list of its slots are read, each at its place.
use Rattle.std.proofs.Common.{◌≡◌, ℕ, ◌<◌, List, slice_index_or, sym, subst}
use Rattle.core_frames.specs.declared.shared.allocator.Allocator.{Allocator}
use Rattle.frame_slots.specs.SlotLists.{IsListOf}
use Rattle.frame_slots.specs.declared.slots.SlotList.{SlotList}
use Rattle.frame_zones.specs.Zones.{zone_count, zone_at}
use Rattle.frame_zones.specs.declared.zones.Zones.{Zones}
use Rattle.zone_slots.specs.Memories.{AreSlotted}

-- the list is that of the zone's slots, as both were read
pub list_read : (zs : Zones) (lists : List SlotList) (z : ℕ) (a : Allocator) (s : SlotList) → AreSlotted zs lists
    → z < zone_count zs → a ≡ zone_at zs z a → s ≡ slice_index_or lists z s → IsListOf a s
list_read zs lists z a s are within a-is s-is =
    subst (λ (b : Allocator). IsListOf b s) (sym a-is)
    (subst (λ (l : SlotList). IsListOf (zone_at zs z a) l) (sym s-is) (are.each z a s within))
