use Rattle.std.proofs.Common.{◌≡◌, map}
use Rattle.core_frames.specs.Desks.{core_of}
use Rattle.llfree_trace.proofs.run_desks.finish_all.Given as goal

abbrev pub invariant-loop-desk : goal.invariant-loop-desk
invariant-loop-desk l = l.cores.items ≡ map core_of l.yielded
