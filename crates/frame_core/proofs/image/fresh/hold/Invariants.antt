use Rattle.std.proofs.Common.{◌+◌, ◌*◌, min, max}
use Rattle.frame_model.specs.Key.{key_of}
use Rattle.frame_core.specs.Image.{IsUncounted, SetsRun}
use Rattle.frame_core.proofs.image.fresh.hold.Given as goal

abbrev pub invariant-loop-word : goal.invariant-loop-word
invariant-loop-word l = record {
  uncounted : IsUncounted (key_of l.geometry) l.words.items;
  set : SetsRun (key_of l.geometry) l.from (max l.from (min (l.from + l.count) (64 * l.word))) l.fn.words.items l.words.items;
}
