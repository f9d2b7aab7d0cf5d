use Rattle.std.specs.Prelude.{◌≡◌}
use Rattle.std.specs.List.Sorted.{IsPermutation}
use Rattle.llfree_c.specs.Replays.{StaysMemory}
use Rattle.llfree_c.proofs.replay.take_into.Given as goal

abbrev pub invariant-loop-i : goal.invariant-loop-i
invariant-loop-i l = record {
  memory : StaysMemory l.fn.allocator l.allocator;
  kept : l.allocator.kept ≡ l.fn.allocator.kept;
  same : IsPermutation l.pending.items l.allocator.out;
}
