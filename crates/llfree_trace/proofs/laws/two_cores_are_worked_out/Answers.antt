use Rattle.llfree_trace.proofs.WorkedOutcome.{worked_out}
use Rattle.llfree_trace.proofs.laws.two_cores_are_worked_out.Goals as goal

pub returns : goal.returns
returns c = worked_out
