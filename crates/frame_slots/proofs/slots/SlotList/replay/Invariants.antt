use Rattle.std.specs.List.{All}
use Rattle.core_frames.specs.Cores.{memory_of, IsCoreOf, IsOutOf}
use Rattle.frame_slots.specs.Reopenings.{IsFollowing}
use Rattle.frame_slots.proofs.slots.SlotList.replay.Given as goal

abbrev pub invariant-loop-step : goal.invariant-loop-step
invariant-loop-step l = record {
  is_core : IsCoreOf l.allocator l.core;
  out : All (IsOutOf l.allocator) l.pending.items;
  follows : IsFollowing (memory_of l.allocator).frames l.numbers l.pending.items l.receipts.items l.core;
}
