use Rattle.std.specs.Prelude.{◌≡◌, ◌+◌, ◌-◌, ◌≤◌, length, vec_len, vec_capacity}
use Rattle.std.specs.List.{All}
use Rattle.zone_slots.specs.Resting.{IsSingleOfZone, ComeToRest}
use Rattle.zone_slots.proofs.memory.Memory.lay_all.Given as goal

abbrev pub invariant-loop-block : goal.invariant-loop-block
invariant-loop-block l = record {
  came : ComeToRest l.self.zones l.fn.zone (length l.fn.blocks.items - length l.blocks.items) l.fn.rest.items l.rest.items;
  out : All (IsSingleOfZone l.self.zones l.fn.zone) l.blocks.items;
  fewer : length l.blocks.items ≤ length l.fn.blocks.items;
  room : vec_len l.rest + vec_len l.blocks ≤ vec_capacity l.rest;
  same : vec_capacity l.rest ≡ vec_capacity l.fn.rest;
  same_blocks : vec_capacity l.blocks ≡ vec_capacity l.fn.blocks;
}

abbrev pub decreases-loop-block : goal.decreases-loop-block
decreases-loop-block l = vec_len l.blocks
