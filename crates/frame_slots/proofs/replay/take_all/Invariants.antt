use Rattle.std.proofs.Common.{vec_len}
use Rattle.std.specs.List.{All}
use Rattle.core_frames.specs.Cores.{IsCoreOf, IsOutOf}
use Rattle.frame_slots.specs.Reopenings.{LendsJust}
use Rattle.frame_slots.proofs.replay.take_all.Given as goal

abbrev pub invariant-loop-less : goal.invariant-loop-less
invariant-loop-less l = record {
  is_core : IsCoreOf l.allocator l.core;
  out : All (IsOutOf l.allocator) l.pending.items;
  lends : LendsJust (vec_len l.pending) l.core;
}
