use Rattle.std.proofs.Common.{◌≡◌, ◌+◌, ◌-◌, ◌*◌, ◌^◌, ◌≤◌}
use Rattle.std.specs.List.{sum_by, range_with_len}
use Rattle.core_frames.specs.FreeCounts.{free_at, shows_whole}
use Rattle.core_frames.proofs.free_counts.count_entries.Given as goal

abbrev pub invariant-loop-child : goal.invariant-loop-child
invariant-loop-child l = record {
  frames : l.sum.frames ≡ l.fn.counts.frames + sum_by (free_at l.word) (range_with_len l.first (l.child - l.first));
  huge : l.sum.huge ≡ l.fn.counts.huge + sum_by (shows_whole l.word) (range_with_len l.first (l.child - l.first));
  few_frames : l.sum.frames ≤ 2 ^ 15 * l.child;
  few_huge : l.sum.huge ≤ l.child;
}
