use Rattle.std.proofs.Common.{rules}
use Rattle.plain_moves.proofs.plain.PlainMoves.try_local_pay.Goals as goal

pub returns-in-Some-clause-allowed : goal.returns-in-Some-clause-allowed
returns-in-Some-clause-allowed c = λ yes. record {
  inside = search rules;
  tree = c.in-Some.tree;
  resting = c.in-Some.resting;
  seen_as = search rules;
  enough = search rules;
  paid = search rules;
}
