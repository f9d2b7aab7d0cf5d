use Rattle.std.proofs.Common.{arith, refl}
use Rattle.held_blocks.specs.Slots.{held}
use Rattle.held_blocks.proofs.PageLemmas.{here_counts, number_le}
use Rattle.held_blocks.proofs.Slots.{length-held}
use Rattle.held_blocks.proofs.StoreLemmas.{fits_same}
use Rattle.held_blocks.proofs.block_store.BlockStore.enter.Goals as goal

pub invariant_of-self : goal.invariant_of-self
invariant_of-self c =
    let f = c.args.self.now.finds in
    record { finds = fits_same f refl f.chained refl c.enter.ensures.slots }

pub enter-requires-clause-few : goal.enter-requires-clause-few
enter-requires-clause-few c =
    let old = c.args.self.now in
    let slots = old.slots in
    omega (arith, c.requires.counts c.args.frame, number_le (held slots.items) c.args.frame, length-held slots.items, slots.ok, slots.small)

pub returns-clause-page : goal.returns-clause-page
returns-clause-page c = omega (arith, c.enter.ensures.numbers c.args.frame, here_counts c.args.frame c.args.frame refl)
