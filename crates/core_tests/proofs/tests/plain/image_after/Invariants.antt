use Rattle.std.proofs.Common.{◌≡◌}
use Rattle.std.specs.List.Sorted.{IsPermutation}
use Rattle.core_tests.proofs.tests.plain.image_after.Given as goal

-- the list has the blocks that are out
abbrev pub invariant-loop-ask : goal.invariant-loop-ask
invariant-loop-ask l = record {
  cores : l.allocator.geometry.cores ≡ l.fn.geometry.cores;
  same : IsPermutation l.blocks.items l.allocator.out;
}
