use Rattle.std.proofs.Common.{rules}
use Rattle.plain_moves.proofs.plain.PlainMoves.try_local_refund.Goals as goal

pub returns-in-Some-clause-allowed : goal.returns-in-Some-clause-allowed
returns-in-Some-clause-allowed c = λ yes. record {
  inside = search rules;
  tree = c.in-Some.tree;
  resting = c.in-Some._resting;
  seen_as = search rules;
  paid = search rules;
}
