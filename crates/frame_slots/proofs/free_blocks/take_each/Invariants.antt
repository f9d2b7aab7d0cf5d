use Rattle.std.specs.List.{All}
use Rattle.std.proofs.Common.{vec_len}
use Rattle.core_frames.specs.Cores.{IsCoreOf, IsOutOf}
use Rattle.frame_slots.specs.Slots.{LendsForEach}
use Rattle.frame_slots.proofs.free_blocks.take_each.Given as goal

abbrev pub invariant-loop-i : goal.invariant-loop-i
invariant-loop-i l = record {
  is_core : IsCoreOf l.allocator l.core;
  out : All (IsOutOf l.allocator) l.blocks.items;
  lends : LendsForEach (vec_len l.fn.blocks) (vec_len l.blocks) l.fn.core l.core;
}
