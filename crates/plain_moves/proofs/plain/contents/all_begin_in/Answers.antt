use Rattle.std.proofs.Common.{◌∙◌, arith}
use Rattle.plain_moves.proofs.PlainOthers.{read_at}
use Rattle.plain_moves.proofs.plain.contents.all_begin_in.Goals as goal

pub returns-then-child_of-child-clause-no : goal.returns-then-child_of-child-clause-no
returns-then-child_of-child-clause-no c = λ no. (
  c.index.result.now,
  (
    (
      c.loop-i.i,
      read_at c.args.blocks.now.items c.loop-i.i c.index.result.now
          (omega (arith, c.loop-i-test.true, c.len-i-end.ensures, c.args.blocks.now.ok)) c.index.ensures,
    ),
    (λ same. c.if-child_of-child.true (c.child_of.ensures ∙ same)),
  ),
)
