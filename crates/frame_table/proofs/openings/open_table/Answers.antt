use Rattle.frame_model.specs.Key.{AreRanges}
use Rattle.frame_table.proofs.openings.open_table.Goals as goal

pub open_table_with-requires-clause-ranges : goal.open_table_with-requires-clause-ranges
unfolding AreRanges
open_table_with-requires-clause-ranges c = tt
