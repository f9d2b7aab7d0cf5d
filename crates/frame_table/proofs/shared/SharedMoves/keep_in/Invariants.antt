use Rattle.frame_model.specs.Seats.{keep_in}
use Rattle.frame_table.proofs.shared.SharedMoves.keep_in.Given as goal

abbrev pub ghosts-join_as : goal.ghosts-join_as
ghosts-join_as a = record { join = keep_in }
