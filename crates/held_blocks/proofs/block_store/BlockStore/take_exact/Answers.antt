use Rattle.held_blocks.specs.LabelledBlocks.{IsTheBlock}
use Rattle.held_blocks.proofs.Slots.{takes_first}
use Rattle.held_blocks.proofs.block_store.BlockStore.take_exact.Goals as goal

pub returns-clause-taken : goal.returns-clause-taken
returns-clause-taken c =
    let old = c.args.self.now.slots in
    let t = c.take_at in
    rw t.ensures.slots
    (takes_first (IsTheBlock c.args.frame c.args.order) old.items c.in_ok-slot.slot t.result c.in_ok-slot.ensures.found t.ensures.entry)
