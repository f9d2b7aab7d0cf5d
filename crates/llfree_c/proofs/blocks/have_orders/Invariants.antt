use Rattle.std.proofs.Common.{ℕ, ◌<◌, slice_index_or}
use Rattle.llfree_c.specs.Reopenings.{NamesAnOrder}
use Rattle.llfree_c.specs.declared.blocks.ClaimedBlock.{ClaimedBlock}
use Rattle.llfree_c.proofs.blocks.have_orders.Given as goal

abbrev pub invariant-loop-claim : goal.invariant-loop-claim
invariant-loop-claim l = (k : ℕ) (d : ClaimedBlock) → k < l.claim-index → NamesAnOrder (slice_index_or l.claims k d)
