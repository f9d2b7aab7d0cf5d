use Rattle.zone_slots.proofs.Cutting.{AreCut}
use Rattle.zone_slots.proofs.cuts.pieces_in.Given as goal

abbrev pub invariant-loop-i : goal.invariant-loop-i
invariant-loop-i l = AreCut (l.first, l.frames) l.ranges l.i l.pieces.items
