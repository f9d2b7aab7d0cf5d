use Rattle.std.proofs.Common.{◌≡◌, ◌*◌, ◌≤◌, take, drop}
use Rattle.std.specs.List.{sum_by}
use Rattle.std.specs.Int.Count.{ones}
use Rattle.frame_model.specs.Key.{key_of}
use Rattle.frame_model.specs.Words.{bits_place}
use Rattle.llfree_c.proofs.rebuilt_image.set_frames.Given as goal

abbrev pub invariant-loop-word : goal.invariant-loop-word
invariant-loop-word l = record {
  counted : l.set ≡ sum_by ones (take l.word (drop (bits_place (key_of l.geometry) (8 * l.child)) l.words));
  limit : l.set ≤ 64 * l.word;
}
