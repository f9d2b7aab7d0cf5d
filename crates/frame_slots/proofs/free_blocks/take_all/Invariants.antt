use Rattle.std.specs.List.{All}
use Rattle.std.proofs.Common.{vec_len}
use Rattle.core_frames.specs.Cores.{IsCoreOf, IsOutOf}
use Rattle.frame_slots.specs.Slots.{HasTakenSoMany}
use Rattle.frame_slots.proofs.free_blocks.take_all.Given as goal

abbrev pub invariant-loop-less : goal.invariant-loop-less
invariant-loop-less l = record {
  is_core : IsCoreOf l.allocator l.core;
  out : All (IsOutOf l.allocator) l.blocks.items;
  lends : HasTakenSoMany (vec_len l.blocks) l.fn.core l.core;
}
