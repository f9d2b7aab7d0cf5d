use Rattle.frame_model.proofs.Safe.{every_fit_is_safe}
use Rattle.frame_model.proofs.laws.every_fit_is_safe.Goals as goal

pub returns : goal.returns
returns c = every_fit_is_safe
