use Rattle.std.proofs.Common.{◌∙◌, ap, length, refl, drop, arith}
use Rattle.std.proofs.lemmas.List.{length-take-le}
use Rattle.zone_slots.proofs.Rested.{moved_back}
use Rattle.zone_slots.proofs.frame_list.+move_back.Goals as goal

pub returns : goal.returns
returns t c =
    let was = c.in-Some.ensures.cases in
    let next = c.in-Some-first_chunk_mut.ensures.cases in
    let first = c.swap.ensures.y_after ∙ was.0 in
    moved_back 8 c.args.frames.now c.swap.new.y c.in-Some.others.now c.swap.new.x (drop 8 c.in-Some.others.now)
    c.move_back.new.frames first was.1 (ap length first ∙ length-take-le 8 c.args.frames.now (omega (arith, c.requires)))
    (c.swap.ensures.x_after ∙ next.same) refl c.move_back.ensures
