use Rattle.frame_model.proofs.WrongSteps.Met.{are_met}
use Rattle.frame_model.proofs.wrong.wrong_steps_are_met.Goals as goal

pub returns : goal.returns
returns c = are_met
