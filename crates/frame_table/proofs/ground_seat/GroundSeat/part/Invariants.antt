use Rattle.frame_table.specs.Openings.{adopt_block}
use Rattle.frame_table.proofs.ground_seat.GroundSeat.part.Given as goal

abbrev pub ghosts-cut_seat : goal.ghosts-cut_seat
ghosts-cut_seat a = record { cut = adopt_block a._about }
