use Rattle.std.specs.List.{All}
use Rattle.core_frames.specs.Cores.{IsCoreOf}
use Rattle.llfree_bench.proofs.phases.cores_of.Given as goal

abbrev pub invariant-loop-hand : goal.invariant-loop-hand
invariant-loop-hand l = All (IsCoreOf l.memory) l.cores.items
