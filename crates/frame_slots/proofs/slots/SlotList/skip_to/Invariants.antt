use Rattle.std.specs.Prelude.{◌≡◌, ◌≤◌, vec_capacity}
use Rattle.std.proofs.Common.{vec_len}
use Rattle.frame_slots.specs.SlotLists.{IsListOf}
use Rattle.frame_slots.proofs.slots.SlotList.skip_to.Given as goal

abbrev pub invariant-loop-place : goal.invariant-loop-place
invariant-loop-place l = record {
  slots : IsListOf l.allocator l.self;
  next : l.place ≡ vec_len l.self.list;
  room : vec_capacity l.fn.self.list ≤ vec_capacity l.self.list;
}
