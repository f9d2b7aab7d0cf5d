use Rattle.std.proofs.Common.{◌≡◌, ◌⊎◌, ℕ, ◌<◌, ◌≤◌, length}
use Rattle.core_frames.specs.LeftFrames.{bit_in}
use Rattle.core_frames.proofs.shared.left_frames.clear_run.Given as goal

abbrev pub invariant-loop-x : goal.invariant-loop-x
invariant-loop-x l = record {
  count : length l.bits.items ≡ length l.fn.bits.items;
  cleared : (i : ℕ) → l.from ≤ i → i < l.x → bit_in l.bits.items i ≡ 0;
  others : (i : ℕ) → (i < l.from) ⊎ (l.x ≤ i) → bit_in l.bits.items i ≡ bit_in l.fn.bits.items i;
}
