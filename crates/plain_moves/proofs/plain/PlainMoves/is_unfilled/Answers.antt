use Rattle.std.proofs.Common.{arith}
use Rattle.plain_moves.proofs.Checks.{unfilled_known}
use Rattle.plain_moves.proofs.plain.PlainMoves.is_unfilled.Goals as goal

pub returns-clause-yes : goal.returns-clause-yes
returns-clause-yes c = λ yes. unfilled_known c.args.child c.args.self.now.filled.items (c.none_of.ensures.yes yes)

pub returns-clause-no : goal.returns-clause-no
returns-clause-no c = λ no none. let some = c.none_of.ensures.no no in omega (arith, none some.0 some.1.0, some.1.1)
