use Rattle.llfree_c.proofs.PlacedBlocks.{placed_held}
use Rattle.llfree_c.proofs.place_steps.take_block_at.Goals as goal

pub returns-in-Ok-clause-taken : goal.returns-in-Ok-clause-taken
returns-in-Ok-clause-taken c =
    λ _. placed_held c.args.order c.args.frame c.args.state.now c.take_block_at.new.self c.in-Ok.taken c.carried.result
    c.take_block_at.ensures.rest.shared c.in-Ok.ensures.taken c.carried.ensures
