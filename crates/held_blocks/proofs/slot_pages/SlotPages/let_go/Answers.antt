use Rattle.std.proofs.Common.{◌/◌, ◌<◌, ap, arith}
use Rattle.held_blocks.specs.Pages.{blocks_in}
use Rattle.held_blocks.specs.SlotPages.{counted_at}
use Rattle.held_blocks.proofs.PageLemmas.{one_less, paged_within}
use Rattle.held_blocks.proofs.slot_pages.SlotPages.let_go.Goals as goal

pub returns-then-len-lt-FEW_PAGES-clause-numbers :
    goal.returns-then-len-lt-FEW_PAGES-clause-numbers
returns-then-len-lt-FEW_PAGES-clause-numbers c f =
    let pages = c.args.self.now.pages.items in
    let frame = c.args.frame in
    let some : 0 < counted_at c.args.self.now frame = omega (arith, c.requires) in
    one_less pages frame f c.take.new.self (paged_within pages (frame / 512) some)
    (omega (arith, ap blocks_in c.take.ensures.after, c.requires))

pub returns-else-len-lt-FEW_PAGES-clause-numbers :
    goal.returns-else-len-lt-FEW_PAGES-clause-numbers
returns-else-len-lt-FEW_PAGES-clause-numbers c f =
    let pages = c.args.self.now.pages.items in
    let frame = c.args.frame in
    let some : 0 < counted_at c.args.self.now frame = omega (arith, c.requires) in
    one_less pages frame f c.take.new.self (paged_within pages (frame / 512) some)
    (omega (arith, ap blocks_in c.take.ensures.after, c.requires))
