use Rattle.std.specs.List.{All}
use Rattle.llfree_bench.specs.Hands.{IsHandOf}
use Rattle.llfree_bench.proofs.phases.hands_of.Given as goal

abbrev pub invariant-loop-core : goal.invariant-loop-core
invariant-loop-core l = All (IsHandOf l.memory) l.hands.items
