use Rattle.std.proofs.Common.{Some, arith, ap, ◌∙◌}
use Rattle.frame_model.specs.declared.view.View.{View}
use Rattle.frame_model.specs.Steps.{after_load, next}
use Rattle.frame_table.specs.Seats.{key_at, id_of, view_of}
use Rattle.frame_table.proofs.Lifting.{look_allows}
use Rattle.frame_table.proofs.Becoming.{Stepped, looked}
use Rattle.frame_table.proofs.seats.CoreSeat.load.Goals as goal

pub load-requires : goal.load-requires
load-requires c =
    let t = c.args.table.now in
    let seat = c.args.self.now.seat in
    let sits = c.requires.seat.at in (
      sits.table,
      omega (arith, t.words, c.requires.word),
      look_allows t.grid.shared.key t.grid.shared.table_id.slots seat.id seat.me sits.bare sits.about c.args.word,
    )

after : (c : goal.After-load) → Stepped (id_of c.args.table.now) (key_at c.args.table.now) c.load.new.seat.table_id c.args.self.now.seat.me
    c.load.new.seat.me c.args.word c.load.result c.load.result (Some c.load.result) (after_load next (view_of c.args.self.now))
after c =
    let t = c.args.table.now in
    let seat = c.args.self.now.seat in
    looked (id_of t) (key_at t) seat.table_id c.load.new.seat.table_id seat.me c.load.new.seat.me c.requires.seat.at c.load.ensures.0
    c.args.word t.grid.shared.table_id.slots c.load.result c.load.ensures.2

pub returns : goal.returns
returns c =
    let a = after c in
    let sits = c.requires.seat in
    record {
      sits = record {
        at = a.sits;
        some = omega (arith, ap (λ (v : View). v.share) a.view, sits.some);
        not_ground = ap (λ (v : View). v.is_ground) a.view ∙ sits.not_ground;
      };
      view = a.view;
      lawful = c.load.ensures.2.0 (key_at c.args.table.now) sits.at.about;
      here = a.here;
      reads = a.others;
      apart = a.apart;
      learns = a.learns;
    }
