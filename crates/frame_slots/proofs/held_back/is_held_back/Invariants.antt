use Rattle.std.proofs.Common.{◌≡◌, ℕ, ◌+◌, ◌%◌, ◌^◌, ◌<◌, ◌≤◌}
use Rattle.frame_slots.specs.SlotLists.{place_for, MeetsRanges}
use Rattle.frame_slots.proofs.held_back.is_held_back.Given as goal

abbrev pub invariant-loop-order : goal.invariant-loop-order
invariant-loop-order l = (frame order : ℕ) → order < l.order → frame % 2 ^ order ≡ 0
    → place_for frame order ≡ l.place → frame + 2 ^ order ≤ l.frames → MeetsRanges l.ranges frame order
