use Rattle.std.proofs.Common.{◌≡◌, ℕ, ◌<◌, ◌≤◌}
use Rattle.frame_slots.specs.Numbers.{image_bit}
use Rattle.frame_slots.proofs.numbers.are_set.Given as goal

abbrev pub invariant-loop-x : goal.invariant-loop-x
invariant-loop-x l = (i : ℕ) → l.from ≤ i → i < l.x → image_bit l.numbers i ≡ 1
