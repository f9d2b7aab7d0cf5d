use Rattle.std.proofs.Common.{arith, below_more, subst}
use Rattle.std.proofs.lemmas.List.{get_or_default}
use Rattle.frame_model.specs.Block.{block}
use Rattle.frame_model.specs.declared.block.FrameBlock.{FrameBlock}
use Rattle.zone_slots.specs.Layouts.{LiesInOne}
use Rattle.zone_slots.specs.ZoneClaims.{first_frame_at}
use Rattle.zone_slots.proofs.zone_claims.are_in_zones.Goals as goal

pub loop-block-preserved : goal.loop-block-preserved
loop-block-preserved c =
    below_more (λ k. LiesInOne (first_frame_at c.args.blocks.now k) c.args.zones.now) c.loop-block.block-index
    c.loop-block.invariant (c.in-Some._zone, c.in-Some.ensures.0, c.in-Some.ensures.1)

pub returns : goal.returns
returns c = λ k d within.
    subst (λ (b : FrameBlock). LiesInOne b.frame c.args.zones.now)
    (get_or_default c.args.blocks.now k (block 0 0) d within)
    (c.loop-block.invariant k (omega (arith, within, c.loop-block-test.false)))
