use Rattle.std.specs.List.{All}
use Rattle.core_frames.specs.Cores.{IsCoreOf, IsOutOf}
use Rattle.llfree_stress.proofs.stamps.work.Given as goal

abbrev pub invariant-loop-turn : goal.invariant-loop-turn
invariant-loop-turn g l = record {
  core : IsCoreOf l.allocator l.core;
  out : All (IsOutOf l.allocator) l.blocks.items;
}

abbrev pub invariant-loop-i : goal.invariant-loop-i
invariant-loop-i g l = record {
  core : IsCoreOf l.allocator l.core;
  out : All (IsOutOf l.allocator) l.blocks.items;
}
