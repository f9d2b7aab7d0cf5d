use Rattle.std.proofs.Common.{◌<◌, ap, ◌∙◌, subst, sym, rules}
use Rattle.atomic_table.specs.Table.{Me}
use Rattle.frame_table.specs.declared.rule.Watch.{Watch}
use Rattle.frame_model.specs.declared.view.View.{View}
use Rattle.frame_table.proofs.seats.CoreSeat.join_as.Goals as goal

pub returns : goal.returns
returns g c =
    let V : Me (Unit {0}) Watch → View = λ me. me.0.view in
    let view = ap V c.join_seat.ensures.both in
    record {
      sits = record {
        at = c.join_seat.ensures.seat;
        some = subst (λ (v : View). 0 < v.share) (sym view) c.requires.some;
        not_ground = ap (λ (v : View). v.is_ground) view ∙ c.requires.not_ground;
      };
      view = view;
      reads = search rules;
      recalled = ap (λ (me : Me (Unit {0}) Watch). me.0.known) c.join_seat.ensures.both;
    }
