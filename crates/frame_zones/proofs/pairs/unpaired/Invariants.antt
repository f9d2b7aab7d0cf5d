use Rattle.std.proofs.Common.{◌≡◌, ◌+◌, ◌≤◌, map, vec_len, vec_capacity}
use Rattle.frame_zones.proofs.pairs.unpaired.Given as goal

abbrev pub invariant-loop-pair : goal.invariant-loop-pair
invariant-loop-pair l = record {
  small : l.for_small.items ≡ map (λ p. p.small) l.yielded;
  huge : l.for_huge.items ≡ map (λ p. p.huge) l.yielded;
  room : vec_len l.fn.pairs + vec_len l.fn.pairs ≤ vec_capacity l.for_small;
  room_for_huge : vec_len l.fn.pairs ≤ vec_capacity l.for_huge;
}
