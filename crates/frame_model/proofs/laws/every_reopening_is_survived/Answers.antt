use Rattle.frame_model.proofs.Stopping.Reopening.{every_ground_parts_off, every_reopening_is_survived}
use Rattle.frame_model.proofs.laws.every_reopening_is_survived.Goals as goal

pub returns : goal.returns
returns c = record { parts_off = every_ground_parts_off; survived = every_reopening_is_survived }
