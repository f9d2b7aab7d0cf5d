use Rattle.std.proofs.Common.{◌≡◌, ℕ, ◌<◌, ◌≤◌}
use Rattle.core_frames.specs.LeftFrames.{bit_in}
use Rattle.core_frames.proofs.shared.left_frames.are_set.Given as goal

abbrev pub invariant-loop-x : goal.invariant-loop-x
invariant-loop-x l = (i : ℕ) → l.from ≤ i → i < l.x → bit_in l.bits i ≡ 1
