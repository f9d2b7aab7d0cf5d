use Rattle.std.proofs.Common.{◌/◌, ◌<◌, ap, length, arith, Some}
use Rattle.held_blocks.specs.Pages.{blocks_in}
use Rattle.held_blocks.proofs.PageLemmas.{one_more}
use Rattle.held_blocks.proofs.slot_pages.SlotPages.give_page.Goals as goal

pub returns-clause-numbers : goal.returns-clause-numbers
returns-clause-numbers c f =
    let pages = c.args.self.now.pages.items in
    let frame = c.args.frame in
    let within : frame / 512 < length pages = omega (arith, c.requires.spare.0, c.requires.low) in
    one_more pages frame f (Some c.of_one_block.result) within
    (omega (arith, c.of_one_block.ensures, ap blocks_in c.requires.none))
