use Rattle.std.proofs.Common.{◌≡◌, ℕ, ◌+◌, ◌^◌, ◌<◌, ◌≤◌}
use Rattle.std.specs.Int.{bit_at}
use Rattle.std.specs.Int.Count.{ones}
use Rattle.low_frames.proofs.singles.lowest.Given as goal

abbrev pub invariant-loop-i : goal.invariant-loop-i
invariant-loop-i l = record {
  fits : l.rest < 2 ^ 64;
  among : (i : ℕ) → bit_at l.rest i ≤ bit_at l.fn.word i;
  count : ones l.rest + l._i ≡ ones l.fn.word;
}
