use Rattle.frame_model.proofs.Runs.{every_run_fits}
use Rattle.frame_model.proofs.laws.every_run_fits.Goals as goal

pub returns : goal.returns
returns c = every_run_fits
