use Rattle.std.proofs.Common.{ℕ, ◌<◌, get_or}
use Rattle.plain_moves.specs.Plain.{IsOutside}
use Rattle.plain_moves.proofs.plain.contents.none_of.Given as goal

abbrev pub invariant-loop-i : goal.invariant-loop-i
invariant-loop-i l = record {
  outside : (k d : ℕ) → k < l.i → IsOutside l.child (get_or l.initial.words.items k d);
}
