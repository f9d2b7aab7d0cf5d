use Rattle.std.proofs.Common.{ap, sym, ◌∙◌, subst}
use Rattle.frame_model.specs.declared.block.FrameBlock.{FrameBlock}
use Rattle.frame_model.specs.Block.{block}
use Rattle.core_frames.specs.Uses.{GivesAlone}
use Rattle.core_frames.proofs.shared.allocator.Allocator.give.Goals as goal

pub returns-then-order-eq-HUGE_ORDER-clause-alone : goal.returns-then-order-eq-HUGE_ORDER-clause-alone
returns-then-order-eq-HUGE_ORDER-clause-alone c =
    subst (λ (b : FrameBlock). GivesAlone c.args.self.now b c.args.core.now c.give_huge.new.core)
    (ap (λ f. block f 9) c.of-found.ensures.0
    ∙ ap (block c.args.block.frame) (sym c.if-order-eq-HUGE_ORDER.true ∙ c.order-order.ensures)) c.give_huge.ensures.gives.alone

pub returns-else-order-eq-HUGE_ORDER-clause-alone : goal.returns-else-order-eq-HUGE_ORDER-clause-alone
returns-else-order-eq-HUGE_ORDER-clause-alone c =
    subst (λ (b : FrameBlock). GivesAlone c.args.self.now b c.args.core.now c.give_any.new.core)
    (ap (λ f. block f c.order-order.result) c.of-found.ensures.0 ∙ ap (block c.args.block.frame) c.order-order.ensures)
    c.give_any.ensures.gives.alone
