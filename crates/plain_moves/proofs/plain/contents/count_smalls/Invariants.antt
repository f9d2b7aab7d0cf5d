use Rattle.std.proofs.Common.{◌≡◌, ◌≤◌, take}
use Rattle.frame_model.specs.Block.{smalls}
use Rattle.plain_moves.proofs.plain.contents.count_smalls.Given as goal

abbrev pub invariant-loop-i : goal.invariant-loop-i
invariant-loop-i l = record {
  count : l.count ≡ smalls l.frame (take l.i l.blocks.items);
  few : l.count ≤ l.i;
}
