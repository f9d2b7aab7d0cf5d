use Rattle.frame_core.specs.Acts.{kind_of}
use Rattle.frame_table.proofs.shared.moves.SharedMovesMoves.claim_singles.Given as goal

abbrev pub ghosts-exchange : goal.ghosts-exchange
ghosts-exchange a = record { kind = kind_of a.act a.seen }
