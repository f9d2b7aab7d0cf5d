use Rattle.std.proofs.Common.{ap, ◌∙◌, Option, arith}
use Rattle.atomic_table.specs.Table.{Me}
use Rattle.frame_model.specs.declared.key.Key.{Key}
use Rattle.frame_table.specs.declared.rule.Watch.{Watch}
use Rattle.frame_model.specs.declared.view.View.{View}
use Rattle.frame_model.specs.View.{spent}
use Rattle.frame_table.proofs.openings.part_share_off.Goals as goal

pub returns-clause-new : goal.returns-clause-new
returns-clause-new c =
    let t = c.args.table.now in
    let v : View = c.args.seat.now.me.0.view in
    let cut = c.cut_seat-seat in
    let V : Me (Unit {0}) Watch → View = λ me. me.0.view in
    let is = ap V cut.ensures.right in (
      record {
        at = cut.ensures.other;
        some = omega (arith, ap (λ (u : View). u.share) is);
        not_ground = ap (λ (u : View). u.is_ground) is;
      },
      is ∙ ap (λ (a : Option Key). record spent { about = a; share = 1 }) c.requires.seat.about,
    )
