use Rattle.std.proofs.Common.{◌-◌, ◌≤◌, length}
use Rattle.frame_slots.proofs.held_back.meet.Given as goal

abbrev pub invariant-loop-low : goal.invariant-loop-low
invariant-loop-low l = record {
  ordered : l.low ≤ l.high;
  inside : l.high ≤ length l.ranges;
}

abbrev pub decreases-loop-low : goal.decreases-loop-low
decreases-loop-low l = l.high - l.low
