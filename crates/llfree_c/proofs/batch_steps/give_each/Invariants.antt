use Rattle.std.proofs.Common.{◌≡◌, length}
use Rattle.llfree_c.proofs.FrameBatches.{Given}
use Rattle.llfree_c.proofs.batch_steps.give_each.Given as goal

abbrev pub invariant-loop-block : goal.invariant-loop-block
invariant-loop-block l = record {
  given : Given l.block-index l.fn.held l.block-items l.fn.state l.state;
  long : length l.block-items ≡ length l.fn.held;
}
