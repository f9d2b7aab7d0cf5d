-- Both words of the pair are 0.
use Rattle.std.proofs.Common.{◌*◌, arith}
use Rattle.frame_words.proofs.GroupLemmas.{two_clear}
use Rattle.frame_words.proofs.runs.find_pair.Goals as goal

pub returns-then-words-pair-eq0-clause-found : goal.returns-then-words-pair-eq0-clause-found
returns-then-words-pair-eq0-clause-found c = record {
  group = record {
    aligned = omega arith;
    inside = omega arith;
    clear = two_clear c.args.words.now (2 * c.loop-pair.pair) c.if-words-pair-eq0.true;
  };
  lowest = c.loop-pair.invariant;
}
