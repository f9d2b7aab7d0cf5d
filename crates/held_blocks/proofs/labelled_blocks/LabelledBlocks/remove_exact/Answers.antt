use Rattle.std.proofs.Common.{ap}
use Rattle.held_blocks.proofs.labelled_blocks.LabelledBlocks.remove_exact.Goals as goal

pub returns-clause-none : goal.returns-clause-none
returns-clause-none c = rw (ap (λ list. list.entries) c.self.view_is) at c.take_exact.ensures.none
