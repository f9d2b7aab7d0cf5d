use Rattle.std.proofs.Common.{◌/◌, arith, Some}
use Rattle.held_blocks.proofs.PageLemmas.{one_less, paged_within, read_page}
use Rattle.held_blocks.proofs.slot_pages.SlotPages.leave.Goals as goal

pub returns-clause-numbers : goal.returns-clause-numbers
returns-clause-numbers c f =
    let pages = c.args.self.now.pages.items in
    let frame = c.args.frame in
    let within = paged_within pages (frame / 512) c.requires in
    let was = read_page pages (frame / 512) c.index_mut.result.now c.in-Some-index_mut.page within c.index_mut.ensures.value c.in-Some-index_mut.is in
    one_less pages frame f (Some c.leave.new.self) within (omega (arith, was, c.leave.ensures.blocks))
