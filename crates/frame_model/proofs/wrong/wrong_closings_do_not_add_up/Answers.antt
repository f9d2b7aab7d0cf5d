use Rattle.frame_model.proofs.WrongStates.{entry_is_off, tree_is_off, reservation_is_off, rebuilt_entry_differs, rebuilt_tree_differs}
use Rattle.frame_model.proofs.wrong.wrong_closings_do_not_add_up.Goals as goal

pub returns : goal.returns
returns c = record {
  entry = entry_is_off;
  tree = tree_is_off;
  reservation = reservation_is_off;
  rebuilt_entry = rebuilt_entry_differs;
  rebuilt_tree = rebuilt_tree_differs;
}
