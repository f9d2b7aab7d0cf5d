use Rattle.std.specs.Prelude.{ℕ, ◌*◌, ◌<◌}
use Rattle.frame_model.specs.Key.{key_of}
use Rattle.llfree_c.specs.CoreImages.{SaysOfRebuilt}
use Rattle.llfree_c.specs.Images.{StaysBehind}
use Rattle.llfree_c.proofs.rebuilt_image.write_rebuilt.Given as goal

abbrev pub invariant-loop-child : goal.invariant-loop-child
invariant-loop-child l = record {
  says : (k : ℕ) → k < l.child → SaysOfRebuilt (key_of l.geometry) l.words k l.numbers;
  behind : StaysBehind (9 * l.geometry.children) l.fn.numbers l.numbers;
}
