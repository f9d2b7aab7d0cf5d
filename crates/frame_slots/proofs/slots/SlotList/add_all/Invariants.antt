use Rattle.std.specs.Prelude.{◌≡◌, pos, ◌-ℤ◌, ◌≤◌, vec_capacity}
use Rattle.std.proofs.Common.{vec_len}
use Rattle.std.specs.List.{All}
use Rattle.core_frames.specs.Cores.{IsCoreOf, IsOutOf, lent_by, kept_by}
use Rattle.frame_slots.specs.SlotLists.{IsListOf}
use Rattle.frame_slots.proofs.slots.SlotList.add_all.Given as goal

abbrev pub invariant-loop-held : goal.invariant-loop-held
invariant-loop-held l = record {
  is_core : IsCoreOf l.allocator l.core;
  slots : IsListOf l.allocator l.self;
  room : vec_capacity l.fn.self.list ≤ vec_capacity l.self.list;
  out : All (IsOutOf l.allocator) l.blocks.items;
  lent : lent_by l.core -ℤ pos (vec_len l.blocks) ≡ lent_by l.fn.core -ℤ pos (vec_len l.fn.blocks);
  kept : kept_by l.core ≡ kept_by l.fn.core;
}

abbrev pub decreases-loop-held : goal.decreases-loop-held
decreases-loop-held l = vec_len l.blocks
