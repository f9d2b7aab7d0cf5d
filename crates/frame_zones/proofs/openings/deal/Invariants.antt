use Rattle.std.proofs.Common.{vec_len}
use Rattle.frame_zones.proofs.Dealing.{IsDealing}
use Rattle.frame_zones.proofs.openings.deal.Given as goal

abbrev pub invariant-loop-part : goal.invariant-loop-part
invariant-loop-part l = IsDealing l.fn.cores.items l.fn.parts.items l.parts.items l.cores.items

abbrev pub decreases-loop-part : goal.decreases-loop-part
decreases-loop-part l = vec_len l.parts
