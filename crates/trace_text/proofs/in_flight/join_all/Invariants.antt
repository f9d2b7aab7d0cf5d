use Rattle.std.proofs.Common.{length}
use Rattle.trace_text.proofs.in_flight.join_all.Given as goal

abbrev pub decreases-loop-child : goal.decreases-loop-child
decreases-loop-child g l = length l.going.items
