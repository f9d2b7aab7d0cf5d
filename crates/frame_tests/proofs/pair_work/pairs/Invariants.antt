use Rattle.std.proofs.Common.{◌≤◌}
use Rattle.frame_tests.specs.Work.{IsBack}
use Rattle.frame_tests.proofs.pair_work.pairs.Given as goal

abbrev pub invariant-loop-i : goal.invariant-loop-i
invariant-loop-i g l =
    let M = g.M.Moves in
    record {
      back : IsBack (M.at l.fn.m) (M.at l.m);
      found : l.found ≤ l._i;
    }
