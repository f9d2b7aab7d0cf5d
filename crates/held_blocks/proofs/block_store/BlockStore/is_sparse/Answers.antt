use Rattle.std.proofs.Common.{arith}
use Rattle.held_blocks.proofs.Slots.{length-held}
use Rattle.held_blocks.proofs.block_store.BlockStore.is_sparse.Goals as goal

pub overflow_add-most : goal.overflow_add-most
overflow_add-most c =
    let slots = c.args.self.now.slots in
    omega (arith, c.args.self.now.finds.count, length-held slots.items, slots.ok, slots.small)
