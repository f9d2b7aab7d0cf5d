use Rattle.std.proofs.Common.{ap, ◌∙◌, subst}
use Rattle.frame_model.specs.declared.block.FrameBlock.{FrameBlock}
use Rattle.frame_model.specs.Block.{block}
use Rattle.core_frames.specs.Uses.{GivesAsCore}
use Rattle.core_frames.proofs.shared.allocator.Allocator.give_huge.Goals as goal

pub give_of-requires-clause-block : goal.give_of-requires-clause-block
give_of-requires-clause-block c =
    let same = c.with_order.ensures in
    c.requires.found.is_out c.with_order.result same.0 same.1 same.2

pub returns-clause-gives : goal.returns-clause-gives
returns-clause-gives c =
    let same = c.with_order.ensures in
    subst (λ (b : FrameBlock). GivesAsCore c.args.self.now b c.args.core.now c.give_of.new.core)
    (ap (λ f. block f c.with_order.result.order) same.0 ∙ ap (block c.args.found.frame) same.1) c.give_of.ensures.gives
