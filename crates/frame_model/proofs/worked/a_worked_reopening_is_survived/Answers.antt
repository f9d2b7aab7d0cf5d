use Rattle.frame_model.proofs.WorkedReopening.{reopen_adopt_stop}
use Rattle.frame_model.proofs.worked.a_worked_reopening_is_survived.Goals as goal

pub returns : goal.returns
returns c = let law = c.every_reopening_is_survived.ensures in reopen_adopt_stop law.parts_off law.survived
