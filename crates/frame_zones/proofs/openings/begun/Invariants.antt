use Rattle.std.proofs.Common.{◌≡◌, ◌≤◌, vec_len, vec_capacity}
use Rattle.std.specs.List.{All}
use Rattle.frame_zones.specs.Openings.{HaveHomes, IsBegun}
use Rattle.frame_zones.proofs.openings.begun.Given as goal

abbrev pub invariant-loop-number : goal.invariant-loop-number
invariant-loop-number l = record {
  count : vec_len l.all ≡ l.number;
  room : l.cores ≤ vec_capacity l.all;
  begun : All (IsBegun l.zones) l.all.items;
  homes : HaveHomes l.cores l.zones l.all.items;
}
