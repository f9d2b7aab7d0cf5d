use Rattle.std.proofs.Common.{◌≡◌, ℕ, ◌<◌, get_or}
use Rattle.frame_model.specs.declared.block.FrameBlock.{FrameBlock}
use Rattle.plain_moves.specs.Plain.{BeginsIn}
use Rattle.plain_moves.proofs.plain.contents.all_begin_in.Given as goal

abbrev pub invariant-loop-i : goal.invariant-loop-i
invariant-loop-i l = record {
  same : l.blocks ≡ l.initial.blocks;
  begin : (k : ℕ) (d : FrameBlock) → k < l.i → BeginsIn l.child (get_or l.initial.blocks.items k d);
}
