use Rattle.held_blocks.specs.Slots.{StandsAt}
use Rattle.held_blocks.specs.LabelledBlocks.{IsUnder}
use Rattle.held_blocks.proofs.Slots.{takes_first}
use Rattle.held_blocks.proofs.block_store.BlockStore.take_oldest.Goals as goal

pub returns-clause-taken : goal.returns-clause-taken
returns-clause-taken c =
    let old = c.args.self.now.slots in
    let slot = c.in_ok-slot.slot in
    let t = c.take_at in
    let same = c.oldest_slot.ensures.slots in
    let stands : StandsAt old.items slot t.result = rw same at t.ensures.entry in
    let slots = rw same at t.ensures.slots in
    rw slots (takes_first (IsUnder c.args.label.now) old.items slot t.result c.in_ok-slot.ensures.found stands)
