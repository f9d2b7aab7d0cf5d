use Rattle.frame_model.proofs.WorkedLaws.{closes_with_one_kept}
use Rattle.frame_model.proofs.worked.a_worked_closing_adds_up.Goals as goal

pub returns : goal.returns
returns c =
    closes_with_one_kept c.every_run_fits.ensures c.every_run_from_an_opening_fits.ensures.sealed c.every_closing_adds_up.ensures.counters
    c.every_closing_adds_up.ensures.held
