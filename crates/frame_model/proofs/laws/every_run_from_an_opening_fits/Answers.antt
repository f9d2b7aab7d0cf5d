use Rattle.frame_model.proofs.Opening.{every_run_from_sealed, every_run_from_reopening}
use Rattle.frame_model.proofs.laws.every_run_from_an_opening_fits.Goals as goal

pub returns : goal.returns
returns c = record { sealed = every_run_from_sealed; reopening = every_run_from_reopening }
