use Rattle.std.proofs.Common.{◌≡◌, ◌*◌, ◌≤◌}
use Rattle.std.specs.List.{sum_by, range_with_len}
use Rattle.frame_core.specs.Image.{key_in}
use Rattle.frame_model.specs.Words.{held_of}
use Rattle.frame_image.proofs.held_count.held_frames.Given as goal

abbrev pub invariant-loop-child : goal.invariant-loop-child
invariant-loop-child l = record {
  counted : l.held ≡ sum_by (held_of (key_in l.image) l.image.words) (range_with_len 0 l.child);
  few : l.held ≤ 512 * l.child;
}
