use Rattle.std.proofs.Common.{vec_len}
use Rattle.llfree_bench.specs.Hands.{IsHandOf}
use Rattle.llfree_bench.proofs.hand.Hand.give_all.Given as goal

abbrev pub invariant-loop-block : goal.invariant-loop-block
invariant-loop-block l = IsHandOf l.memory l.self

abbrev pub decreases-loop-block : goal.decreases-loop-block
decreases-loop-block l = vec_len l.self.blocks
