use Rattle.std.proofs.Common.{◌≡◌}
use Rattle.frame_core.specs.Image.{key_in, IsImage, IsCountedBelow, HasSameBits}
use Rattle.frame_core.proofs.image.Image.count_trees.Given as goal

abbrev pub invariant-loop-tree : goal.invariant-loop-tree
invariant-loop-tree l = record {
  geometry : l.self.geometry ≡ l.fn.self.geometry;
  image : IsImage (key_in l.fn.self) l.self.words;
  bits : HasSameBits (key_in l.fn.self) l.fn.self.words l.self.words;
  counted : IsCountedBelow (key_in l.fn.self) l.self.words l.fn.self.geometry.children l.tree;
}
