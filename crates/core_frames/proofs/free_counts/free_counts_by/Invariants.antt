use Rattle.std.proofs.Common.{◌*◌, ◌^◌, ◌≤◌}
use Rattle.core_frames.proofs.EntriesRead.{entries_in, LooksBelow}
use Rattle.core_frames.proofs.free_counts.free_counts_by.Given as goal

abbrev pub invariant-loop-i : goal.invariant-loop-i
invariant-loop-i g l =
    let M = g.M.Moves in
    record {
      looks : LooksBelow M.tick l.i l.counts.frames l.counts.huge (M.at l.fn.m) (M.at l.m);
      frames : l.counts.frames ≤ 2 ^ 15 * entries_in (M.at l.fn.m).key l.i;
      huge : l.counts.huge ≤ entries_in (M.at l.fn.m).key l.i;
    }
