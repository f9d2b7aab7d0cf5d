use Rattle.std.proofs.Common.{◌≡◌, ℕ, List, length, sym, subst, rules}
use Rattle.frame_slots.specs.SlotLists.{place_for, AreSlotsOf}
use Rattle.frame_slots.specs.declared.slot.Slot.{Slot}
use Rattle.frame_slots.proofs.SlotLists.{added}
use Rattle.frame_slots.proofs.slots.SlotList.add.Goals as goal

pub returns-clause-slots : goal.returns-clause-slots
returns-clause-slots c =
    let old : List Slot = c.args.self.now.list.items in
    let gaps : List ℕ = c.args.self.now.gaps.words.items in
    let next : place_for c.args.frame c.args.order ≡ length old = search rules in
    subst (λ (slots : List Slot). AreSlotsOf c.args.allocator.now slots gaps) (sym c.in-Ok.ensures.items)
    (added c.args.allocator.now old c.args.slot gaps c.args.frame c.args.order c.requires.slots c.requires.slot next)
