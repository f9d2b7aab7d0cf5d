use Rattle.std.proofs.Common.{◌≡◌, ◌≤◌, take}
use Rattle.frame_model.specs.Block.{wholes}
use Rattle.plain_moves.proofs.plain.contents.count_wholes.Given as goal

abbrev pub invariant-loop-i : goal.invariant-loop-i
invariant-loop-i l = record {
  count : l.count ≡ wholes l.child (take l.i l.blocks.items);
  few : l.count ≤ l.i;
}
