use Rattle.std.proofs.Common.{◌≡◌, ◌+◌, ◌≤◌, length, vec_len, vec_capacity}
use Rattle.frame_zones.proofs.Pairing.{IsPairing}
use Rattle.frame_zones.proofs.zones.Zones.paired.Given as goal

abbrev pub invariant-loop-number : goal.invariant-loop-number
invariant-loop-number l = record {
  pairing : IsPairing l.self (length l.fn.for_small.items) l.number l.fn.for_small.items l.fn.for_huge.items
      l.for_small.items l.for_huge.items l.pairs.items;
  small_left : vec_len l.for_small + l.number ≡ vec_len l.fn.for_small;
  huge_left : vec_len l.for_huge + l.number ≡ vec_len l.fn.for_small;
  room : vec_len l.fn.for_small ≤ vec_capacity l.pairs;
}
