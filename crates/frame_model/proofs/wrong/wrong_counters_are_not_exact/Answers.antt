use Rattle.frame_model.proofs.WrongStates.{exact_entry_is_off, exact_tree_is_off, reserved_still, resting_still}
use Rattle.frame_model.proofs.wrong.wrong_counters_are_not_exact.Goals as goal

pub returns : goal.returns
returns c = record {
  entry = exact_entry_is_off;
  tree = exact_tree_is_off;
  reserved = reserved_still;
  resting = resting_still;
}
