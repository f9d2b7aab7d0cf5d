use Rattle.std.proofs.Common.{ap, ◌∙◌, Option, true}
use Rattle.atomic_table.specs.Table.{Me}
use Rattle.frame_model.specs.declared.key.Key.{Key}
use Rattle.frame_table.specs.declared.rule.Watch.{Watch}
use Rattle.frame_model.specs.declared.view.View.{View}
use Rattle.frame_model.specs.View.{spent}
use Rattle.frame_table.proofs.openings.part_ground_off.Goals as goal

pub returns-clause-held : goal.returns-clause-held
returns-clause-held c =
    let t = c.args.table.now in
    let v : View = c.args.seat.now.me.0.view in
    let cut = c.cut_seat-seat in
    let V : Me (Unit {0}) Watch → View = λ me. me.0.view in
    let is = ap V cut.ensures.right in (
      record {
        at = cut.ensures.other;
        share = ap (λ (u : View). u.share) is;
        is_ground = ap (λ (u : View). u.is_ground) is;
      },
      is ∙ ap (λ (a : Option Key). record spent { about = a; is_ground = true; own = v.kept }) c.requires.seat.about,
    )
