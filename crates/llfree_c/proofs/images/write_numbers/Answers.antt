use Rattle.std.proofs.Common.{◌+◌, ◌*◌, ◌≤◌, arith, rules}
use Rattle.frame_core.specs.Image.{key_in}
use Rattle.llfree_c.proofs.ImageNumbers.{stays_behind}
use Rattle.llfree_c.proofs.ImageNumbers.{says_more}
use Rattle.llfree_c.proofs.images.write_numbers.Goals as goal

pub loop-child-preserved : goal.loop-child-preserved
loop-child-preserved c = record {
  says =
      says_more (key_in c.args.image.now) c.args.image.now.words c.loop-child.numbers c.write_child.new.numbers
      c.loop-child.child c.write_child.ensures.below c.loop-child.invariant.says c.write_child.ensures.written;
  behind =
      stays_behind (9 * c.loop-child.child + 9) (9 * c.args.image.now.geometry.children) c.args.numbers.now
      c.loop-child.numbers c.write_child.new.numbers (search rules) c.loop-child.invariant.behind
      c.write_child.ensures.behind;
}

pub returns-clause-written : goal.returns-clause-written
returns-clause-written c =
    let end : c.args.image.now.geometry.children ≤ c.loop-child.child = search rules in
    λ k less. c.loop-child.invariant.says k (omega arith)
