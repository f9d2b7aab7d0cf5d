use Rattle.frame_model.proofs.Sets.{or_full}
use Rattle.frame_table.proofs.shared.moves.SharedMovesMoves.fill_word.Goals as goal

pub swap-requires-clause-left : goal.swap-requires-clause-left
swap-requires-clause-left c old h = or_full old h
