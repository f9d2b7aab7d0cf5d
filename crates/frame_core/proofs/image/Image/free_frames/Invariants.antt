use Rattle.std.proofs.Common.{◌≡◌, ◌*◌, ◌-◌, ◌≤◌}
use Rattle.std.specs.List.{sum_by, range_with_len}
use Rattle.frame_model.specs.Words.{free_of}
use Rattle.frame_core.proofs.image.Image.free_frames.Given as goal

abbrev pub invariant-loop-child : goal.invariant-loop-child
invariant-loop-child l = record {
  counted : l.free ≡ sum_by (free_of l.self.words) (range_with_len (8 * l.tree) (l.child - 8 * l.tree));
  limit : l.free ≤ 512 * (l.child - 8 * l.tree);
}
