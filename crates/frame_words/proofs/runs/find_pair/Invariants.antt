-- No group begins below.
use Rattle.std.proofs.Common.{ℕ, ◌*◌, ◌<◌}
use Rattle.frame_words.specs.Runs.{IsClearGroup}
use Rattle.frame_words.proofs.runs.find_pair.Given as goal

abbrev pub invariant-loop-pair : goal.invariant-loop-pair
invariant-loop-pair l = (first : ℕ) → first < 2 * l.pair → ¬ IsClearGroup l.words 7 first
