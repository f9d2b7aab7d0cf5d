use Rattle.std.proofs.Common.{◌≡◌, ◌≤◌, ◌*◌, ℕ, ◌<◌}
use Rattle.frame_model.specs.View.{names}
use Rattle.plain_moves.proofs.plain.contents.all_of.Given as goal

abbrev pub invariant-loop-word : goal.invariant-loop-word
invariant-loop-word l = record {
  named : (word : ℕ) → 8 * l.child ≤ word → word < l.word-counter → names word l.initial.words.items ≡ 1;
}
