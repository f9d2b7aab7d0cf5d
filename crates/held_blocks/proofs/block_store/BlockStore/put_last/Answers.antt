use Rattle.std.proofs.Common.{arith, ◌∙◌, Some, ◌++◌, ◌∷◌, []}
use Rattle.held_blocks.specs.LabelChains.{Chained}
use Rattle.held_blocks.proofs.PageLemmas.{keeps_page}
use Rattle.held_blocks.proofs.Slots.{length-held}
use Rattle.held_blocks.proofs.StoreLemmas.{fits_push}
use Rattle.held_blocks.proofs.block_store.BlockStore.put_last.Goals as goal

pub overflow_add-self : goal.overflow_add-self
overflow_add-self c =
    let slots = c.args.self.now.slots in
    omega (arith, c.args.self.now.finds.count, length-held slots.items, slots.ok, slots.small)

pub invariant_of-self : goal.invariant_of-self
invariant_of-self c =
    let old = c.args.self.now in
    let x = c.args.entry in
    let k = c.key_of-key.ensures in
    let chains = c.put_last in
    let table = c.put_slot.ensures in
    let chained : Chained chains.new.self (old.slots.items ++ Some x ∷ []) = rw c.as_slice.ensures.value at (chains.ensures.chained x) in
    let keys = rw k.key at chains.ensures.adds.keys in
    let frame = c.frame.ensures in
    let here = rw frame at table.here ∙ c.len.ensures ∙ old.slots.ok.0 in
    record { finds = fits_push old.finds x k.lawful c.push_reserved.ensures.items chained keys (keeps_page table.pages x.block.frame c.requires.page) here (keeps_page table.pages) (rw frame at table.others) c.requires.apart }

pub returns-clause-room : goal.returns-clause-room
returns-clause-room c =
    let p = c.push_reserved.ensures in
    let chains = c.put_last.ensures in
    let table = c.put_slot.ensures in
    record {
      room = λ n h. (omega (arith, p.len, p.capacity, h.0), chains.adds.room n h.1);
      known = chains.adds.known;
      pages = table.pages;
    }
