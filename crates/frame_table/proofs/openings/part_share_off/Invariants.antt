use Rattle.frame_model.specs.Seats.{part_share}
use Rattle.frame_table.proofs.openings.part_share_off.Given as goal

abbrev pub ghosts-cut_seat : goal.ghosts-cut_seat
ghosts-cut_seat a = record { cut = part_share 1 }
