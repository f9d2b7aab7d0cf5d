use Rattle.frame_model.proofs.CutEnd.{stop_with_a_cut_end}
use Rattle.frame_model.proofs.worked.a_worked_end_stays_held.Goals as goal

pub returns : goal.returns
returns c = stop_with_a_cut_end c.every_stop_is_survived.ensures.survived
