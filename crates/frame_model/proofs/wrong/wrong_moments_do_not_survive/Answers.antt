use Rattle.frame_model.proofs.WrongStates.{moment_does_not_fit, known_overlap, known_is_free}
use Rattle.frame_model.proofs.WrongStates.{lost_without_a_stop, loses_too_much}
use Rattle.frame_model.proofs.wrong.wrong_moments_do_not_survive.Goals as goal

pub returns : goal.returns
returns c = record {
  fit = moment_does_not_fit;
  overlap = known_overlap;
  known = known_is_free;
  lost = lost_without_a_stop;
  too_many = loses_too_much;
}
