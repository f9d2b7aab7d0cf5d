use Rattle.std.proofs.Common.{arith}
use Rattle.frame_table.proofs.Lifting.{cut_splits}
use Rattle.frame_table.proofs.Effects.{some_words}
use Rattle.frame_table.proofs.Parting.{left_seat, right_seat}
use Rattle.frame_table.specs.Seats.{key_at, id_of}
use Rattle.frame_table.proofs.steps.cut_seat.Goals as goal

pub split_seat-requires : goal.split_seat-requires
split_seat-requires g c =
    let t = c.args.table.now in
    let seat = c.args.seat.now in (
      c.requires.seat.table,
      omega (arith, t.words, some_words (key_at t)),
      cut_splits t.grid.shared.key t.grid.shared.table_id.slots seat.id seat.me.0 c.requires.seat.about g.P.Cutting.cut c.requires.may,
    )

pub returns-clause-seat : goal.returns-clause-seat
returns-clause-seat g c =
    let t = c.args.table.now in
    let seat = c.args.seat.now in
    let after = c.split_seat in
    left_seat (id_of t) (key_at t) seat.table_id after.new.seat.table_id seat.me after.new.seat.me
    c.requires.seat after.ensures.0 g.P.Cutting.cut c.requires.may after.ensures.2

pub returns-clause-other : goal.returns-clause-other
returns-clause-other g c =
    let t = c.args.table.now in
    let seat = c.args.seat.now in
    let after = c.split_seat in
    right_seat (id_of t) (key_at t) seat.table_id after.result.table_id seat.me after.result.me
    c.requires.seat after.ensures.3 g.P.Cutting.cut c.requires.may after.ensures.4
