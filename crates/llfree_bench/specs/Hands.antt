-- What a thread works with.
use Rattle.std.specs.List.{All}
use Rattle.core_frames.specs.Cores.{IsCoreOf, IsOutOf}
use Rattle.core_frames.specs.declared.shared.allocator.Allocator.{Allocator}
use Rattle.llfree_bench.specs.declared.hand.Hand.{Hand}

-- the core is one of the allocator's, and the blocks are out there
pub record IsHandOf (a : Allocator) (h : Hand) : Type 0 where
  pub core : IsCoreOf a h.core
  pub blocks : All (IsOutOf a) h.blocks.items
