use Rattle.core_frames.specs.Cores.{IsNewCore}
use Rattle.llfree_example.proofs.work.Given as goal

abbrev pub invariant-loop-i : goal.invariant-loop-i
invariant-loop-i l = IsNewCore l.allocator l.core
