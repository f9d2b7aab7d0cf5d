use Rattle.std.proofs.Common.{◌*◌, ◌<◌}
use Rattle.frame_core.specs.Mover.{Keeps, IsApart}
use Rattle.low_frames.specs.Takes.{Counts, IsAsBefore}
use Rattle.low_frames.proofs.AloneLemmas.{IsFirstTry}
use Rattle.low_frames.proofs.singles.try_claim_some.Given as goal

abbrev pub invariant-loop-i : goal.invariant-loop-i
invariant-loop-i g l =
    let M = g.M.Moves in
    record {
      keeps : Keeps (M.at l.fn.m) (M.at l.m);
      view : IsAsBefore (M.at l.fn.m).view (M.at l.m).view;
      counts : Counts M.is_exact (2 * l._i) (M.at l.fn.m) (M.at l.m);
      apart : 0 < l._i → IsApart (M.at l.fn.m).key (M.at l.m).view;
      first : (M.at l.fn.m).is_alone → IsFirstTry l._i (M.at l.fn.m).words (M.at l.m).words;
    }
