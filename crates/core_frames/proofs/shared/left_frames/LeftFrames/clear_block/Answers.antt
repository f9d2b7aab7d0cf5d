use Rattle.std.proofs.Common.{◌+◌, ◌*◌, length, ⊎_elim, inl, inr, ap, arith, rules}
use Rattle.frame_model.specs.Block.{block}
use Rattle.core_frames.proofs.LeftLemmas.{cleared_run, cleared_child}
use Rattle.core_frames.proofs.shared.left_frames.LeftFrames.clear_block.Goals as goal

pub returns-then-order-eq-HUGE_ORDER : goal.returns-then-order-eq-HUGE_ORDER
returns-then-order-eq-HUGE_ORDER c =
    let left = c.args.self.now in
    let b = block c.args.frame c.args.order in
    cleared_child b (64 * length left.bits.items) left.bits.items left.huge.items c.child_of.result
    (search rules) c.requires.shown (search rules) (search rules)

pub returns : goal.returns
returns c =
    let left = c.args.self.now in
    let b = block c.args.frame c.args.order in
    let run = c.clear_run.ensures in
    let end = ap (λ n. c.args.frame + n) c.frames_of.ensures.value in
    cleared_run b left.bits.items c.clear_run.new.bits.items left.huge.items
    (omega (arith, c.requires.order, c.if-order-eq-HUGE_ORDER.false))
    c.requires.shown run.count
    (λ x l h. run.cleared x l (omega (arith, end, h)))
    (λ x out. run.others x (⊎_elim (λ l. inl l) (λ h. inr (omega (arith, end, h))) out))
