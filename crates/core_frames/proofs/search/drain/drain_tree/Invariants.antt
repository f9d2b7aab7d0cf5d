use Rattle.std.proofs.Common.{◌*◌}
use Rattle.low_frames.specs.Takes.{IsAsBefore}
use Rattle.core_frames.specs.Bounds.{most_to_drain}
use Rattle.core_frames.specs.Searches.{Brings}
use Rattle.core_frames.proofs.PlaceLemmas.{IsDrainedUpTo}
use Rattle.core_frames.proofs.search.drain.drain_tree.Given as goal

abbrev pub invariant-loop-core : goal.invariant-loop-core
invariant-loop-core g l =
    let M = g.M.Moves in
    record {
      brings : Brings M.is_exact (most_to_drain * l.core) IsAsBefore (IsDrainedUpTo (M.at l.fn.m).key l.tree l.core)
          (M.at l.fn.m) (M.at l.m);
    }
