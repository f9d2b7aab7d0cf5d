use Rattle.std.proofs.Common.{ℕ, ◌<◌}
use Rattle.frame_slots.specs.SlotLists.{AccountsFor}
use Rattle.frame_slots.proofs.slots.SlotList.has_each.Given as goal

abbrev pub invariant-loop-place : goal.invariant-loop-place
invariant-loop-place l = (place : ℕ) → place < l.place → AccountsFor l.fn.frames l.ranges place l.self
