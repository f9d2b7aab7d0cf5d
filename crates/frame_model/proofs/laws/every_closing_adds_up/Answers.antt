use Rattle.frame_model.proofs.Closing.{every_closing_adds_up, every_closing_holds_the_kept}
use Rattle.frame_model.proofs.laws.every_closing_adds_up.Goals as goal

pub returns : goal.returns
returns c = record { counters = every_closing_adds_up; held = every_closing_holds_the_kept }
