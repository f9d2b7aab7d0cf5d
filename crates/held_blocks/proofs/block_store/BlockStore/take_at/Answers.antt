use Rattle.held_blocks.specs.Slots.{held}
use Rattle.held_blocks.specs.SlotPages.{number_in}
use Rattle.held_blocks.proofs.PageLemmas.{number_less}
use Rattle.std.proofs.Common.{ap, arith, ◌≡◌, ◌+◌, ◌-◌}
use Rattle.held_blocks.proofs.Slots.{held_less}
use Rattle.held_blocks.proofs.StoreLemmas.{fits_take}
use Rattle.held_blocks.proofs.block_store.BlockStore.take_at.Goals as goal

pub overflow_sub-self : goal.overflow_sub-self
overflow_sub-self c =
    let t = c.take_slot-entry in
    omega (arith, held_less c.args.self.now.slots.items c.args.slot t.result t.ensures.entry, c.args.self.now.finds.count)

pub invariant_of-self : goal.invariant_of-self
invariant_of-self c =
    let old = c.args.self.now in
    let f = old.finds in
    let t = c.take_slot-entry in
    let less : (old.live - 1) + 1 ≡ old.live = omega (arith, held_less old.slots.items c.args.slot t.result t.ensures.entry, f.count) in
    let l = rw c.frame.ensures at c.leave.ensures.numbers in
    record { finds = fits_take f c.args.slot t.result t.ensures.entry t.ensures.slots less c.requires.counts l c.leave.ensures.slots }

pub returns-clause-counts : goal.returns-clause-counts
returns-clause-counts c f =
    let old = c.args.self.now in
    let t = c.take_slot-entry in
    let l = rw c.frame.ensures at c.leave.ensures.numbers in
    let less = number_less old.slots.items c.args.slot t.result f t.ensures.entry in
    let now = ap (λ l. number_in (held l) f) t.ensures.slots in
    omega (arith, l f, less, now, c.requires.counts f)
