use Rattle.std.proofs.Common.{ℕ, ◌<◌, slice_index_or}
use Rattle.llfree_c.specs.Batches.{CarriesSingle}
use Rattle.llfree_c.specs.declared.block_handle.BlockHandle.{BlockHandle}
use Rattle.llfree_c.proofs.batch_steps.are_single.Given as goal

abbrev pub invariant-loop-block : goal.invariant-loop-block
invariant-loop-block l = (k : ℕ) (d : BlockHandle) → k < l.block-index → CarriesSingle (slice_index_or l.held k d)
