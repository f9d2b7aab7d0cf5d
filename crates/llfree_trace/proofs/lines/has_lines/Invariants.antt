use Rattle.std.proofs.Common.{take}
use Rattle.std.specs.List.{All}
use Rattle.llfree_trace.specs.Rounds.{IsNoAskOf}
use Rattle.llfree_trace.proofs.lines.has_lines.Given as goal

abbrev pub invariant-loop-line : goal.invariant-loop-line
invariant-loop-line l = All (IsNoAskOf l.core) (take l.line-index l.lines)
