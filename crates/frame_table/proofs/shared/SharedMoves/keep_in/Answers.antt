use Rattle.std.proofs.Common.{ap, ◌∙◌}
use Rattle.atomic_table.specs.Table.{Me}
use Rattle.frame_table.specs.declared.rule.Watch.{Watch}
use Rattle.frame_model.specs.declared.view.View.{View}
use Rattle.frame_model.specs.Block.{block}
use Rattle.frame_table.proofs.Handing.{takes_in}
use Rattle.frame_table.proofs.shared.SharedMoves.keep_in.Goals as goal

pub join_as-requires-clause-may : goal.join_as-requires-clause-may
join_as-requires-clause-may c =
    let held = c.args.held in
    let V : Me (Unit {0}) Watch → View = λ me. me.0.view in
    takes_in (V c.args.self.now.seat.now.seat.me) (V c.into_seat-seat.result.me) held.seat.me.0.view.about (block held.frame held.order)
    c.args.self.now.sits.some
    (ap (λ (s : Rattle.atomic_table.specs.declared.shared.Seat.Seat (Unit {0}) Watch). V s.me) c.into_seat-seat.ensures ∙ ap V held.owns)
