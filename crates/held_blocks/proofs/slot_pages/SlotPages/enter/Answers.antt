use Rattle.std.proofs.Common.{◌/◌, ◌<◌, length, arith, Some}
use Rattle.held_blocks.proofs.PageLemmas.{one_more, read_page}
use Rattle.held_blocks.proofs.slot_pages.SlotPages.enter.Goals as goal

pub returns-clause-numbers : goal.returns-clause-numbers
returns-clause-numbers c f =
    let pages = c.args.self.now.pages.items in
    let frame = c.args.frame in
    let within : frame / 512 < length pages = omega (arith, c.requires.spare.0, c.requires.low) in
    let was = read_page pages (frame / 512) c.index_mut.result.now c.in-Some.page within c.index_mut.ensures.value c.in-Some.is in
    one_more pages frame f (Some c.enter.new.self) within (omega (arith, was, c.enter.ensures.blocks))
