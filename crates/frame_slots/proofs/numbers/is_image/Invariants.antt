use Rattle.std.proofs.Common.{ℕ, ◌<◌}
use Rattle.frame_slots.specs.Numbers.{IsChildOf}
use Rattle.frame_slots.proofs.numbers.is_image.Given as goal

abbrev pub invariant-loop-child : goal.invariant-loop-child
invariant-loop-child l = (c : ℕ) → c < l.child → IsChildOf l.frames l.numbers c
