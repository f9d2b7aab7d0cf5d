use Rattle.std.proofs.Common.{◌*◌}
use Rattle.low_frames.specs.Bounds.{attempt}
use Rattle.low_frames.specs.Takes.{IsAsBefore}
use Rattle.core_frames.specs.Alone.{SameFrames}
use Rattle.core_frames.specs.Searches.{Brings, HasMade}
use Rattle.core_frames.proofs.search.attempts.try_pay_own.Given as goal

abbrev pub invariant-loop-i : goal.invariant-loop-i
invariant-loop-i g l =
    let M = g.M.Moves in
    record {
      brings : Brings M.is_exact (2 * l._i) IsAsBefore (SameFrames (M.at l.fn.m).key) (M.at l.fn.m) (M.at l.m);
      made : HasMade M.is_exact (2 * l._i) attempt (M.at l.fn.m) (M.at l.m);
    }
