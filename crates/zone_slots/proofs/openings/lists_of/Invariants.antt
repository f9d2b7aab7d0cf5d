use Rattle.std.proofs.Common.{◌≡◌, ◌<◌, ◌≤◌, ℕ, length, slice_index_or, vec_capacity}
use Rattle.std.specs.Prelude.{true}
use Rattle.frame_slots.specs.declared.slots.SlotList.{SlotList}
use Rattle.frame_zones.specs.Zones.{zone_count, AreCoresOf}
use Rattle.zone_slots.specs.Openings.{IsListIn, IsUsedAlike}
use Rattle.zone_slots.proofs.openings.lists_of.Given as goal

abbrev pub invariant-loop-zone : goal.invariant-loop-zone
invariant-loop-zone l = record {
  are_cores : AreCoresOf l.zones l.core;
  home : l.core.home ≡ l.fn.core.home;
  used : IsUsedAlike l.zones l.fn.core l.core;
  count : length l.lists.items ≡ l.zone;
  each : (z : ℕ) (list : SlotList) → z < l.zone → IsListIn true l.zones z (slice_index_or l.lists.items z list);
  room : zone_count l.zones ≤ vec_capacity l.lists;
}
