use Rattle.frame_core.specs.Mover.{Keeps}
use Rattle.low_frames.specs.Takes.{IsAsBefore}
use Rattle.frame_tests.proofs.pair_work.pay.Given as goal

abbrev pub invariant-loop-i : goal.invariant-loop-i
invariant-loop-i g l =
    let M = g.M.Moves in
    record {
      keeps : Keeps (M.at l.fn.m) (M.at l.m);
      view : IsAsBefore (M.at l.fn.m).view (M.at l.m).view;
    }
