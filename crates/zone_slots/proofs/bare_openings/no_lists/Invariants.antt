use Rattle.std.proofs.Common.{◌≡◌, ◌<◌, ◌≤◌, ℕ, length, slice_index_or, vec_capacity}
use Rattle.std.specs.Prelude.{false}
use Rattle.frame_slots.specs.declared.slots.SlotList.{SlotList}
use Rattle.frame_zones.specs.Zones.{zone_count}
use Rattle.zone_slots.specs.Openings.{IsListIn}
use Rattle.zone_slots.proofs.bare_openings.no_lists.Given as goal

abbrev pub invariant-loop-zone : goal.invariant-loop-zone
invariant-loop-zone l = record {
  count : length l.lists.items ≡ l.zone-index;
  each : (z : ℕ) (list : SlotList) → z < l.zone-index
      → IsListIn false l.zones z (slice_index_or l.lists.items z list);
  room : zone_count l.zones ≤ vec_capacity l.lists;
}
