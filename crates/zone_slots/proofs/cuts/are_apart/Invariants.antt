use Rattle.std.proofs.Common.{◌≡◌, ℕ, ◌-◌, ◌<◌, ◌≤◌}
use Rattle.zone_slots.specs.Layouts.{stretch_at, end_of}
use Rattle.zone_slots.proofs.cuts.are_apart.Given as goal

abbrev pub invariant-loop-first : goal.invariant-loop-first
invariant-loop-first l =
    let i = l.first-index in
    record {
      some : (k : ℕ) → k < i → 1 ≤ (stretch_at l.ranges k).1;
      ascend : (j k : ℕ) → j < k → k < i → end_of (stretch_at l.ranges j) ≤ (stretch_at l.ranges k).0;
      start : i ≡ 0 → l.from ≡ 0;
      last : 0 < i → l.from ≡ end_of (stretch_at l.ranges (i - 1));
    }
