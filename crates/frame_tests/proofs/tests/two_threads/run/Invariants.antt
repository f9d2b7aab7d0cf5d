use Rattle.frame_table.specs.Seats.{IsIdleSeat}
use Rattle.frame_tests.proofs.tests.two_threads.run.Given as goal

abbrev pub invariant-loop-i : goal.invariant-loop-i
invariant-loop-i l = IsIdleSeat l.table l.core
