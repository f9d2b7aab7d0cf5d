use Rattle.std.specs.Prelude.{ℕ, ◌*◌, ◌<◌}
use Rattle.frame_core.specs.Image.{key_in}
use Rattle.llfree_c.specs.Images.{SaysOfChild, StaysBehind}
use Rattle.llfree_c.proofs.images.write_numbers.Given as goal

abbrev pub invariant-loop-child : goal.invariant-loop-child
invariant-loop-child l = record {
  says : (k : ℕ) → k < l.child → SaysOfChild (key_in l.image) l.image.words k l.numbers;
  behind : StaysBehind (9 * l.image.geometry.children) l.fn.numbers l.numbers;
}
