use Rattle.frame_model.proofs.WorkedLaws.{safe_run}
use Rattle.frame_model.proofs.worked.a_worked_run_is_safe.Goals as goal

pub returns : goal.returns
returns c = safe_run c.every_run_from_an_opening_fits.ensures.reopening c.every_fit_is_safe.ensures
