use Rattle.std.proofs.Common.{◌*◌}
use Rattle.low_frames.specs.Takes.{IsAsBefore}
use Rattle.low_frames.proofs.AloneLemmas.{IsFirstTry}
use Rattle.core_frames.specs.Alone.{SameFrames}
use Rattle.core_frames.specs.Searches.{Brings}
use Rattle.core_frames.proofs.search.attempts.try_pay.Given as goal

abbrev pub invariant-loop-i : goal.invariant-loop-i
invariant-loop-i g l =
    let M = g.M.Moves in
    record {
      brings : Brings M.is_exact (2 * l._i) IsAsBefore (SameFrames (M.at l.fn.m).key) (M.at l.fn.m) (M.at l.m);
      first : (M.at l.fn.m).is_alone → IsFirstTry l._i (M.at l.fn.m).words (M.at l.m).words;
    }
