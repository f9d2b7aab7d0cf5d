use Rattle.std.proofs.Common.{◌≡◌, ℕ, ◌-◌, ◌<◌, ◌≤◌, length}
use Rattle.zone_slots.specs.Layouts.{stretch_at, end_of_children, EndsBelow, MayBeZone}
use Rattle.frame_zones.specs.Spans.{most_zones}
use Rattle.zone_slots.proofs.layouts.may_be_laid_out.Given as goal

abbrev pub invariant-loop-first : goal.invariant-loop-first
invariant-loop-first l =
    let i = l.first-index in
    record {
      some : 1 ≤ length l.zones;
      few : length l.zones ≤ most_zones;
      each : (z : ℕ) → z < i → MayBeZone (stretch_at l.zones z);
      apart : (y z : ℕ) → y < z → z < i → EndsBelow (stretch_at l.zones y) (stretch_at l.zones z);
      start : i ≡ 0 → l.from ≡ 0;
      last : 0 < i → l.from ≡ end_of_children (stretch_at l.zones (i - 1));
    }
