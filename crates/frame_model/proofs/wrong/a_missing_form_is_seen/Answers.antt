use Rattle.frame_model.proofs.WorkedLaws.{forms_are_apart}
use Rattle.frame_model.proofs.WrongStates.{form_is_missing}
use Rattle.frame_model.proofs.wrong.a_missing_form_is_seen.Goals as goal

pub returns : goal.returns
returns c = record { missing = form_is_missing; apart = forms_are_apart }
