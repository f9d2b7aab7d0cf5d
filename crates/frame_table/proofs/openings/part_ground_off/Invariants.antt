use Rattle.frame_model.specs.Seats.{part_ground}
use Rattle.frame_table.proofs.openings.part_ground_off.Given as goal

abbrev pub ghosts-cut_seat : goal.ghosts-cut_seat
ghosts-cut_seat a = record { cut = part_ground }
