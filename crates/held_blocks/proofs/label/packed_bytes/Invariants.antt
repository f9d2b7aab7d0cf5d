use Rattle.std.proofs.Common.{◌≡◌, ◌≤◌, length, drop}
use Rattle.held_blocks.specs.Label.{packed}
use Rattle.held_blocks.proofs.label.packed_bytes.Given as goal

abbrev pub invariant-loop-left : goal.invariant-loop-left
invariant-loop-left l = (l.key ≡ packed (drop l.left l.bytes)) × (l.left ≤ length l.bytes)

abbrev pub decreases-loop-left : goal.decreases-loop-left
decreases-loop-left l = l.left
