use Rattle.std.specs.List.{All}
use Rattle.core_frames.specs.Cores.{IsOutOf}
use Rattle.core_frames.specs.Left.{IsSurvivorsOf}
use Rattle.frame_tests.proofs.tests.stops.adopted_in_all.Given as goal

abbrev pub invariant-loop-ask : goal.invariant-loop-ask
invariant-loop-ask l = record {
  survivors : IsSurvivorsOf l.allocator l.survivors;
  out : All (IsOutOf l.allocator) l.blocks.items;
}
