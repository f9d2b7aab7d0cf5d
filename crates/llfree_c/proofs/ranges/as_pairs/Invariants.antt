use Rattle.std.specs.Prelude.{◌≡◌, ◌≤◌, length}
use Rattle.std.proofs.Common.{vec_len, vec_capacity, take}
use Rattle.llfree_c.specs.Openings.{pairs_of}
use Rattle.llfree_c.proofs.ranges.as_pairs.Given as goal

abbrev pub invariant-loop-range : goal.invariant-loop-range
invariant-loop-range l = record {
  pairs : l.pairs.items ≡ pairs_of (take l.range-index l.ranges);
  count : vec_len l.pairs ≡ l.range-index;
  room : length l.ranges ≤ vec_capacity l.pairs;
}
