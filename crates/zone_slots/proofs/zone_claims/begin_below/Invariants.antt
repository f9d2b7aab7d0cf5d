use Rattle.std.proofs.Common.{ℕ, ◌-◌, ◌<◌, ◌≤◌, length}
use Rattle.zone_slots.specs.ZoneClaims.{first_frame_at}
use Rattle.zone_slots.proofs.zone_claims.begin_below.Given as goal

abbrev pub invariant-loop-low : goal.invariant-loop-low
invariant-loop-low l = record {
  ordered : l.low ≤ l.high;
  inside : l.high ≤ length l.blocks;
  below : (k : ℕ) → k < l.low → first_frame_at l.blocks k < l.frame;
  behind : (k : ℕ) → l.high ≤ k → k < length l.blocks → l.frame ≤ first_frame_at l.blocks k;
}

abbrev pub decreases-loop-low : goal.decreases-loop-low
decreases-loop-low l = l.high - l.low
