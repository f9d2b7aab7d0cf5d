use Rattle.std.proofs.Common.{ℕ, ◌<◌, slice_index_or}
use Rattle.frame_model.specs.declared.block.FrameBlock.{FrameBlock}
use Rattle.llfree_c.specs.ZoneClaims.{IsHeldInOne}
use Rattle.llfree_c.proofs.zone_claims.are_held_in.Given as goal

abbrev pub invariant-loop-block : goal.invariant-loop-block
invariant-loop-block l =
    (k : ℕ) (d : FrameBlock) → k < l.block-index → IsHeldInOne l.zones l.numbers (slice_index_or l.blocks k d)
