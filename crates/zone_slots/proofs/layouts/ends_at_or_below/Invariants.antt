use Rattle.std.proofs.Common.{ℕ, ◌-◌, ◌<◌, ◌≤◌, length}
use Rattle.zone_slots.specs.Layouts.{stretch_at, end_of}
use Rattle.zone_slots.proofs.layouts.ends_at_or_below.Given as goal

abbrev pub invariant-loop-low : goal.invariant-loop-low
invariant-loop-low l = record {
  ordered : l.low ≤ l.high;
  inside : l.high ≤ length l.stretches;
  below : (k : ℕ) → k < l.low → end_of (stretch_at l.stretches k) ≤ l.frame;
  behind : (k : ℕ) → l.high ≤ k → k < length l.stretches → l.frame < end_of (stretch_at l.stretches k);
}

abbrev pub decreases-loop-low : goal.decreases-loop-low
decreases-loop-low l = l.high - l.low
