use Rattle.llfree_bench.specs.Hands.{IsHandOf}
use Rattle.llfree_bench.proofs.hand.Hand.fill.Given as goal

abbrev pub invariant-loop-i : goal.invariant-loop-i
invariant-loop-i l = IsHandOf l.memory l.self
