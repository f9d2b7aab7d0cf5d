use Rattle.std.proofs.Common.{◌+◌, ◌*◌, ◌≤◌, arith, rules}
use Rattle.frame_model.specs.Key.{key_of}
use Rattle.llfree_c.proofs.ImageNumbers.{stays_behind}
use Rattle.llfree_c.proofs.RebuiltNumbers.{says_more}
use Rattle.llfree_c.proofs.rebuilt_image.write_rebuilt.Goals as goal

pub loop-child-preserved : goal.loop-child-preserved
loop-child-preserved c = record {
  says =
      says_more (key_of c.args.geometry) c.args.words.now c.loop-child.numbers c.write_child.new.numbers
      c.loop-child.child c.write_child.ensures.below c.loop-child.invariant.says c.write_child.ensures.written;
  behind =
      stays_behind (9 * c.loop-child.child + 9) (9 * c.args.geometry.children) c.args.numbers.now
      c.loop-child.numbers c.write_child.new.numbers (search rules) c.loop-child.invariant.behind
      c.write_child.ensures.behind;
}

pub returns-clause-written : goal.returns-clause-written
returns-clause-written c =
    let end : c.args.geometry.children ≤ c.loop-child.child = search rules in
    λ k less. c.loop-child.invariant.says k (omega arith)
