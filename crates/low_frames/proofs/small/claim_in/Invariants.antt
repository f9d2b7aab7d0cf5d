use Rattle.std.proofs.Common.{◌*◌}
use Rattle.frame_core.specs.Mover.{Keeps}
use Rattle.low_frames.specs.Bounds.{attempt}
use Rattle.low_frames.specs.Takes.{Counts, IsAsBefore, StaysSure}
use Rattle.low_frames.specs.Alone.{FindsOf}
use Rattle.low_frames.proofs.AloneLemmas.{HasNoRunsBelow}
use Rattle.low_frames.proofs.small.claim_in.Given as goal

abbrev pub invariant-loop-i : goal.invariant-loop-i
invariant-loop-i g l =
    let M = g.M.Moves in
    record {
      keeps : Keeps (M.at l.fn.m) (M.at l.m);
      view : IsAsBefore (M.at l.fn.m).view (M.at l.m).view;
      counts : Counts M.is_exact (attempt * l.i) (M.at l.fn.m) (M.at l.m);
      sure : StaysSure (M.at l.fn.m) (M.at l.m);
      none : (M.at l.fn.m).is_alone → FindsOf (HasNoRunsBelow (M.at l.fn.m).key (8 * l.fn.child) l.i l.fn.order)
          (M.at l.fn.m).words (M.at l.m).words;
    }
