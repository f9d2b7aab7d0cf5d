use Rattle.std.proofs.Common.{length}
use Rattle.trace_text.specs.TraceText.{IsReadTo}
use Rattle.trace_text.proofs.parser.parse_trace.Given as goal

abbrev pub invariant-loop-ranges : goal.invariant-loop-ranges
invariant-loop-ranges l = IsReadTo l.cores l.text l.lines.items l.ranges.items l.named l.records.rows

abbrev pub decreases-loop-ranges : goal.decreases-loop-ranges
decreases-loop-ranges l = length l.records.rows
