use Rattle.std.proofs.Common.{ℕ, ◌<◌, ◌≤◌}
use Rattle.frame_slots.specs.Numbers.{IsHeldBy}
use Rattle.frame_slots.proofs.numbers.are_free.Given as goal

abbrev pub invariant-loop-x : goal.invariant-loop-x
invariant-loop-x l = (i : ℕ) → l.from ≤ i → i < l.x → ¬ IsHeldBy l.numbers i
