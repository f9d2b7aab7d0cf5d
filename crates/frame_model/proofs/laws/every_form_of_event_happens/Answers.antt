use Rattle.frame_model.proofs.Sample.Whole.{happening}
use Rattle.frame_model.proofs.laws.every_form_of_event_happens.Goals as goal

pub returns : goal.returns
returns c = happening
