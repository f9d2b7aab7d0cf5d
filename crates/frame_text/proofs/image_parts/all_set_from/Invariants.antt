use Rattle.std.proofs.Common.{◌≡◌, ◌/◌, ◌%◌, ◌≤◌, ◌<◌, ℕ}
use Rattle.std.specs.Prelude.{slice_index}
use Rattle.std.specs.Int.{bit_at}
use Rattle.frame_text.proofs.image_parts.all_set_from.Given as goal

abbrev pub invariant-loop-frame : goal.invariant-loop-frame
invariant-loop-frame l =
    (d : ℕ) → l.first ≤ d → d < l.frame → bit_at (slice_index l.bits (d / 64)) (d % 64) ≡ 1
