use Rattle.std.specs.List.{AllAdjacentBelow}
use Rattle.frame_slots.proofs.Overlaps.{BeginsOutside}
use Rattle.frame_slots.proofs.claims.are_apart.Given as goal

abbrev pub invariant-loop-i : goal.invariant-loop-i
invariant-loop-i l = AllAdjacentBelow BeginsOutside l.blocks l.i
