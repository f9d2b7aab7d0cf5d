use Rattle.std.proofs.Common.{take}
use Rattle.frame_model.specs.Key.{key_of}
use Rattle.frame_core.specs.Image.{IsUncounted, SetsRanges}
use Rattle.frame_core.proofs.image.fresh.hold_ranges.Given as goal

abbrev pub invariant-loop-from : goal.invariant-loop-from
invariant-loop-from l = record {
  uncounted : IsUncounted (key_of l.geometry) l.words.items;
  set : SetsRanges (key_of l.geometry) (take l.from-index l.ranges) l.fn.words.items l.words.items;
}
