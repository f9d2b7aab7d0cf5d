use Rattle.frame_model.proofs.WrongStates.{blocks_overlap, block_is_outside, seat_is_past_the_end, entry_promises_too_much}
use Rattle.frame_model.proofs.WrongStates.{huge_frame_promises, tree_promises_too_much}
use Rattle.frame_model.proofs.wrong.wrong_states_are_not_safe.Goals as goal

pub returns : goal.returns
returns c = record {
  overlap = blocks_overlap;
  outside = block_is_outside;
  past_the_end = seat_is_past_the_end;
  entry = entry_promises_too_much;
  huge_frame = huge_frame_promises;
  tree = tree_promises_too_much;
}
