use Rattle.std.specs.List.{All}
use Rattle.core_frames.specs.Cores.{IsCoreOf, IsOutOf}
use Rattle.frame_tests.proofs.tests.stops.give_all.Given as goal

abbrev pub invariant-loop-i : goal.invariant-loop-i
invariant-loop-i l = record {
  core : IsCoreOf l.allocator l.core;
  out : All (IsOutOf l.allocator) l.blocks.items;
}
