use Rattle.std.proofs.Common.{◌≡◌, length}
use Rattle.llfree_c.proofs.FrameBatches.{Filled}
use Rattle.llfree_c.proofs.batch_steps.take_each.Given as goal

abbrev pub invariant-loop-block : goal.invariant-loop-block
invariant-loop-block l = record {
  filled : Filled l.count l.fn.held l.block-items l.fn.state l.state;
  count : l.count ≡ l.block-index;
  long : length l.block-items ≡ length l.fn.held;
}
