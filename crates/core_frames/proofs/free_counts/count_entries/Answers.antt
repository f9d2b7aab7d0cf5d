use Rattle.std.proofs.Common.{ap, arith}
use Rattle.frame_words.specs.Words.{free_in}
use Rattle.core_frames.specs.FreeCounts.{free_at, is_whole, shows_whole}
use Rattle.core_frames.proofs.EntriesRead.{range_last}
use Rattle.core_frames.proofs.free_counts.count_entries.Goals as goal

pub loop-child-preserved : goal.loop-child-preserved
loop-child-preserved c =
    let k = c.loop-child.child in
    let was = c.loop-child.invariant in
    let free = range_last (free_at c.args.word) c.args.first k c.loop-child.auto.child in
    let whole = range_last (shows_whole c.args.word) c.args.first k c.loop-child.auto.child in
    record {
      frames = omega (arith, was.frames, free, c.entry_free.ensures.value, ap free_in c.lane-entry.ensures.value);
      huge = omega (arith, was.huge, whole, c.whole_in.ensures.value, ap is_whole c.lane-entry.ensures.value);
      few_frames = omega (arith, was.few_frames, c.entry_free.ensures.below);
      few_huge = omega (arith, was.few_huge, c.whole_in.ensures.few);
    }
