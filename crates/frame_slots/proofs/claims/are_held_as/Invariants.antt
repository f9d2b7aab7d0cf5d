use Rattle.std.proofs.Common.{ℕ, ◌<◌, slice_index_or}
use Rattle.frame_model.specs.declared.block.FrameBlock.{FrameBlock}
use Rattle.frame_slots.specs.Claims.{IsHeldAs}
use Rattle.frame_slots.proofs.claims.are_held_as.Given as goal

abbrev pub invariant-loop-block : goal.invariant-loop-block
invariant-loop-block l =
    (k : ℕ) (d : FrameBlock) → k < l.block-index → IsHeldAs l.frames l.numbers (slice_index_or l.blocks k d)
