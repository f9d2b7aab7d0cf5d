-- No group begins below.
use Rattle.std.proofs.Common.{ℕ, ◌*◌, ◌<◌}
use Rattle.frame_words.specs.Runs.{IsClearGroup}
use Rattle.frame_words.proofs.runs.find_four.Given as goal

abbrev pub invariant-loop-four : goal.invariant-loop-four
invariant-loop-four l = (first : ℕ) → first < 4 * l.four → ¬ IsClearGroup l.words 8 first
