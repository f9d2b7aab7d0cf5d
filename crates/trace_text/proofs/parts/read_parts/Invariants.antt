use Rattle.std.proofs.Common.{◌+◌, ◌*◌, length, map}
use Rattle.trace_text.specs.Parts.{IsReadSoFar}
use Rattle.trace_text.proofs.parts.read_parts.Given as goal

abbrev pub invariant-loop-rest : goal.invariant-loop-rest
invariant-loop-rest g l = IsReadSoFar l.geometry.cores l.text l.trace (map (λ h. h.promise) l.going.items) l.rest

abbrev pub decreases-loop-rest : goal.decreases-loop-rest
decreases-loop-rest g l = length l.rest * 2 + length l.going.items
