use Rattle.std.proofs.Common.{ap, arith}
use Rattle.held_blocks.specs.Slots.{held}
use Rattle.held_blocks.specs.SlotPages.{number_in}
use Rattle.held_blocks.proofs.PageLemmas.{number_push}
use Rattle.held_blocks.proofs.block_store.BlockStore.add_entry.Goals as goal

pub put_last-requires-clause-page : goal.put_last-requires-clause-page
put_last-requires-clause-page c = rw c.frame.ensures at c.enter.ensures.page

pub returns-clause-counts : goal.returns-clause-counts
returns-clause-counts c f =
    let old = c.args.self.now in
    let same = ap (λ s. held s.items) c.enter.ensures.slots in
    let p = c.put_last.ensures in
    let entries = rw same at p.entries in
    let numbers = rw c.frame.ensures at (c.enter.ensures.numbers f) in
    omega (arith, p.room.pages.numbers f, numbers, c.requires.counts f, ap (λ l. number_in l f) entries, number_push (held old.slots.items) c.args.entry f)
