use Rattle.std.proofs.Common.{ℕ, ◌<◌, slice_index_or}
use Rattle.llfree_c.specs.Batches.{CarriesNothing}
use Rattle.llfree_c.specs.declared.block_handle.BlockHandle.{BlockHandle}
use Rattle.llfree_c.proofs.batch_steps.are_empty.Given as goal

abbrev pub invariant-loop-block : goal.invariant-loop-block
invariant-loop-block l = (k : ℕ) (d : BlockHandle) → k < l.block-index → CarriesNothing (slice_index_or l.held k d)
