use Rattle.std.proofs.Common.{◌≡◌, ◌*◌, ◌≤◌, take, drop}
use Rattle.std.specs.List.{sum_by}
use Rattle.std.specs.Int.Count.{ones}
use Rattle.frame_core.specs.Image.{key_in}
use Rattle.frame_model.specs.Words.{bits_place}
use Rattle.frame_core.proofs.image.Image.set_frames.Given as goal

abbrev pub invariant-loop-word : goal.invariant-loop-word
invariant-loop-word l = record {
  counted : l.set ≡ sum_by ones (take l.word (drop (bits_place (key_in l.self) (8 * l.child)) l.self.words));
  limit : l.set ≤ 64 * l.word;
}
