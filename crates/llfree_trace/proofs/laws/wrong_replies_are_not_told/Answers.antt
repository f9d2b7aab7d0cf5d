use Rattle.llfree_trace.proofs.WrongRecords.{give_is_refused, list_overlaps, other_block, other_kind}
use Rattle.llfree_trace.proofs.WrongRecords.{take_is_refused, wrong_block}
use Rattle.llfree_trace.proofs.laws.wrong_replies_are_not_told.Goals as goal

pub returns : goal.returns
returns c = record {
  kind = other_kind;
  taken = wrong_block;
  take_refused = take_is_refused;
  given = other_block;
  give_refused = give_is_refused;
  overlap = list_overlaps;
}
