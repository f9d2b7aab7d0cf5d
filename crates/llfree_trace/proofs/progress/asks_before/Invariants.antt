use Rattle.std.proofs.Common.{◌≡◌, take}
use Rattle.std.specs.List.{All}
use Rattle.llfree_trace.specs.Rounds.{IsAsk}
use Rattle.llfree_trace.proofs.progress.asks_before.Given as goal

abbrev pub invariant-loop-line : goal.invariant-loop-line
invariant-loop-line l = (l.count ≡ l.line-index) × All IsAsk (take l.line-index l.lines)
