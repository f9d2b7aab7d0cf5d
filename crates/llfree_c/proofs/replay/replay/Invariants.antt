use Rattle.std.specs.Prelude.{◌≡◌, [], ◌++◌}
use Rattle.std.specs.List.Sorted.{IsPermutation}
use Rattle.llfree_c.specs.Replays.{FollowsImage, StaysMemory}
use Rattle.llfree_c.proofs.replay.replay.Given as goal

abbrev pub invariant-loop-less : goal.invariant-loop-less
invariant-loop-less l = record {
  memory : StaysMemory l.fn.allocator l.allocator;
  kept : l.allocator.kept ≡ [];
  same : IsPermutation l.pending.items l.allocator.out;
}

abbrev pub invariant-loop-step : goal.invariant-loop-step
invariant-loop-step l = record {
  memory : StaysMemory l.fn.allocator l.allocator;
  same : IsPermutation (l.laid.items ++ l.pending.items) l.allocator.out;
  follows : FollowsImage l.numbers l.laid.items l.allocator;
}
