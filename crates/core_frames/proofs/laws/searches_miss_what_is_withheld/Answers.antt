use Rattle.core_frames.proofs.Missed.{misses_the_withheld, nobody_withholds}
use Rattle.core_frames.proofs.laws.searches_miss_what_is_withheld.Goals as goal

pub returns : goal.returns
returns c = record { withheld = misses_the_withheld; at_rest = nobody_withholds }
