use Rattle.std.proofs.Common.{arith}
use Rattle.frame_table.proofs.Lifting.{join_joins}
use Rattle.frame_table.proofs.Effects.{some_words}
use Rattle.frame_table.proofs.Parting.{both_seat}
use Rattle.frame_table.specs.Seats.{key_at, id_of}
use Rattle.frame_table.proofs.steps.join_seat.Goals as goal

pub join_seat-requires : goal.join_seat-requires
join_seat-requires g c =
    let t = c.args.table.now in
    let seat = c.args.seat.now in (
      c.requires.seat.table,
      c.requires.other.0,
      c.requires.other.1,
      omega (arith, t.words, some_words (key_at t)),
      join_joins t.grid.shared.key t.grid.shared.table_id.slots seat.id seat.me.0 c.requires.seat.about c.args.other.id c.args.other.me.0
          g.P.Joining.join c.requires.may,
    )

pub returns-clause-seat : goal.returns-clause-seat
returns-clause-seat g c =
    let t = c.args.table.now in
    let seat = c.args.seat.now in
    let after = c.join_seat in
    both_seat (id_of t) (key_at t) seat.table_id after.new.seat.table_id seat.me after.new.seat.me
    c.requires.seat after.ensures.0 c.args.other.me.0 g.P.Joining.join c.requires.blocks c.requires.may after.ensures.2
