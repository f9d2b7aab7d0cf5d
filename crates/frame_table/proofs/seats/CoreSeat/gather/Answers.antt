use Rattle.frame_model.proofs.Steps.SeatViews.{blocks_are}
use Rattle.frame_table.specs.Seats.{key_at, view_of}
use Rattle.frame_table.proofs.seats.CoreSeat.gather.Goals as goal

pub join_seat-requires-clause-blocks : goal.join_seat-requires-clause-blocks
join_seat-requires-clause-blocks c =
    blocks_are (key_at c.args.table.now) (view_of c.args.other) c.requires.other.sits.at.is_view

pub join_seat-requires-clause-may : goal.join_seat-requires-clause-may
join_seat-requires-clause-may c = record { keeper = c.requires.seat.idle; other = c.requires.other.idle }
