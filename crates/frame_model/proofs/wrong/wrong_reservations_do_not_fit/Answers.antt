use Rattle.frame_model.proofs.WrongSteps.Trees.{drops_the_resting_count, reserves_twice}
use Rattle.frame_model.proofs.wrong.wrong_reservations_do_not_fit.Goals as goal

pub returns : goal.returns
returns c = record {
  drops_the_resting_count = drops_the_resting_count;
  reserves_twice = reserves_twice;
}
