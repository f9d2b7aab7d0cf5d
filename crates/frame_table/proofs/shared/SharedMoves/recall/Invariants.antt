use Rattle.frame_table.specs.Seats.{recall_block}
use Rattle.frame_table.proofs.shared.SharedMoves.recall.Given as goal

abbrev pub ghosts-cut_as : goal.ghosts-cut_as
ghosts-cut_as a = record { cut = recall_block a.about }
