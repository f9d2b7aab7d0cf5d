use Rattle.llfree_trace.proofs.WrongRecords.{each_gives_its_own, first_taken_first, what_moved}
use Rattle.llfree_trace.proofs.laws.labels_are_given_in_order.Goals as goal

pub returns : goal.returns
returns c = record {
  first = first_taken_first;
  own = each_gives_its_own;
  moved = what_moved;
}
