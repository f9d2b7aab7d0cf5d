use Rattle.std.proofs.Common.{◌-◌, ◌≤◌, length, take}
use Rattle.llfree_trace.specs.Rounds.{GoesOn}
use Rattle.llfree_trace.proofs.progress.run_rounds.Given as goal

abbrev pub invariant-loop-done : goal.invariant-loop-done
invariant-loop-done g l = record {
  within : l.done ≤ length l.lines;
  goes : GoesOn l.allocator 1 (take l.done l.lines) l.fn.start l.progress;
}

abbrev pub decreases-loop-done : goal.decreases-loop-done
decreases-loop-done g l = length l.lines - l.done
