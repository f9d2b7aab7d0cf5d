use Rattle.std.proofs.Common.{◌≤◌, vec_len, vec_capacity}
use Rattle.frame_zones.proofs.Gathering.{IsGathering}
use Rattle.frame_zones.proofs.last_zone.gather.Given as goal

abbrev pub invariant-loop-number : goal.invariant-loop-number
invariant-loop-number l = record {
  gathering : IsGathering l.number l.fn.cores.items l.parts.items l.cores.items;
  room : vec_len l.fn.cores ≤ vec_capacity l.parts;
}
