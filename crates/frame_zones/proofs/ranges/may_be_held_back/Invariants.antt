use Rattle.std.proofs.Common.{◌≤◌, length, drop}
use Rattle.frame_model.specs.Key.{most_ranges, AreRanges}
use Rattle.frame_zones.proofs.ranges.may_be_held_back.Given as goal

abbrev pub invariant-loop-first : goal.invariant-loop-first
invariant-loop-first l =
    let end = l.fn.geometry.frames in
    let left = drop l.first-index l.ranges in
    record {
      few : length l.ranges ≤ most_ranges;
      whole : AreRanges l.from end left → AreRanges 0 end l.ranges;
      part : AreRanges 0 end l.ranges → AreRanges l.from end left;
    }
