use Rattle.plain_moves.proofs.plain.blocks.+push_remains.Given as goal

abbrev pub decreases-push_remains : goal.decreases-push_remains
decreases-push_remains l = l.order
