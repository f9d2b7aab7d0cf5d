use Rattle.std.proofs.Common.{◌≡◌, ◌*◌, false}
use Rattle.low_frames.specs.Takes.{IsAsBefore}
use Rattle.core_frames.specs.Bounds.{most_to_drain}
use Rattle.core_frames.specs.Searches.{Brings, LeavesWords}
use Rattle.core_frames.proofs.AloneSearch.{IsDrainedBelow}
use Rattle.core_frames.proofs.search.drain.drain.Given as goal

abbrev pub invariant-loop-core : goal.invariant-loop-core
invariant-loop-core g l =
    let M = g.M.Moves in
    record {
      brings : Brings M.is_exact (most_to_drain * l.core) IsAsBefore (IsDrainedBelow (M.at l.fn.m).key l.core) (M.at l.fn.m) (M.at l.m);
      nothing : l.some ≡ false → LeavesWords (M.at l.fn.m) (M.at l.m);
    }
