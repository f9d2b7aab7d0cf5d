-- All four words are 0.
use Rattle.std.proofs.Common.{◌*◌, arith}
use Rattle.frame_words.proofs.GroupLemmas.{four_clear}
use Rattle.frame_words.proofs.runs.find_four.Goals as goal

pub returns-then-low-words-eq0-clause-found : goal.returns-then-low-words-eq0-clause-found
returns-then-low-words-eq0-clause-found c = record {
  group = record {
    aligned = omega arith;
    inside = omega arith;
    clear = four_clear c.args.words.now (4 * c.loop-four.four) c.if-low-words-eq0.true;
  };
  lowest = c.loop-four.invariant;
}
