use Rattle.std.proofs.Common.{◌≡◌}
use Rattle.frame_core.specs.Image.{key_in, IsImage, IsCountedBelow, HasSameBits}
use Rattle.frame_core.proofs.image.Image.count_children.Given as goal

abbrev pub invariant-loop-child : goal.invariant-loop-child
invariant-loop-child l = record {
  geometry : l.self.geometry ≡ l.fn.self.geometry;
  image : IsImage (key_in l.fn.self) l.self.words;
  bits : HasSameBits (key_in l.fn.self) l.fn.self.words l.self.words;
  counted : IsCountedBelow (key_in l.fn.self) l.self.words l.child 0;
}
