use Rattle.core_frames.specs.Cores.{IsCoreOf}
use Rattle.frame_tests.proofs.tests.reopenings.take_frames.Given as goal

abbrev pub invariant-loop-i : goal.invariant-loop-i
invariant-loop-i l = IsCoreOf l.allocator l.core
