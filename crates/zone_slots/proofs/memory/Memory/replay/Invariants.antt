use Rattle.std.proofs.Common.{◌≡◌, ◌*◌, ◌<◌, ◌≤◌, ℕ, length, vec_capacity}
use Rattle.core_frames.specs.declared.shared.allocator.Core.{Core}
use Rattle.frame_slots.specs.Slots.{IsUnused}
use Rattle.frame_zones.specs.Zones.{zone_count, core_at, AreCoresOf}
use Rattle.zone_slots.specs.ImageParts.{numbers_before}
use Rattle.zone_slots.specs.Reopenings.{KeepsRestIn, HasLaidIn}
use Rattle.zone_slots.proofs.memory.Memory.replay.Given as goal

abbrev pub invariant-loop-zone : goal.invariant-loop-zone
invariant-loop-zone l = record {
  are_cores : AreCoresOf l.self.zones l.core;
  home : l.core.home ≡ l.fn.core.home;
  rest : (z : ℕ) → z < l.zone → KeepsRestIn l.numbers l.claimed l.self.zones l.core z;
  unused : (k : ℕ) (x : Core) → l.zone ≤ k → k < zone_count l.self.zones → IsUnused (core_at l.core k x);
  laid : (z : ℕ) → z < l.zone → HasLaidIn l.claimed l.rows.items z;
  count : length l.rows.items ≡ l.zone;
  from : l.from ≡ numbers_before l.self.zones l.zone;
  small : l.from ≤ 36864 * l.zone;
  room : zone_count l.self.zones ≤ vec_capacity l.rows;
}
