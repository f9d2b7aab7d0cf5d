use Rattle.std.proofs.Common.{arith}
use Rattle.plain_moves.proofs.Checks.{names_at}
use Rattle.plain_moves.proofs.plain.contents.none_of.Goals as goal

pub returns-then-index-child-clause-no : goal.returns-then-index-child-clause-no
returns-then-index-child-clause-no c = λ no. (
  c.index.result.now,
  (
    c.if-index-child.true,
    names_at c.args.words.now.items c.loop-i.i c.index.result.now
        (omega (arith, c.loop-i-test.true, c.len-i-end.ensures, c.args.words.now.ok)) c.index.ensures,
  ),
)
