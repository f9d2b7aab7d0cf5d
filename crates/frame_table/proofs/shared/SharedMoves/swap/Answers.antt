use Rattle.frame_table.proofs.Words.{fits_before}
use Rattle.frame_table.proofs.shared.SharedMoves.swap.Goals as goal

pub returns-clause-fits : goal.returns-clause-fits
returns-clause-fits g c = λ all ws e. fits_before c.args.self.now _ _ _ _ all c.swap_as.ensures.stays.learns ws e
