use Rattle.frame_model.proofs.WrongStates.{known_is_lost, lost_since_then, loses_more_than_then, can_not_stop, stops_inexactly}
use Rattle.frame_model.proofs.wrong.wrong_reopenings_do_not_survive.Goals as goal

pub returns : goal.returns
returns c = record {
  known = known_is_lost;
  lost = lost_since_then;
  too_many = loses_more_than_then;
  stop = can_not_stop;
  exact = stops_inexactly;
}
