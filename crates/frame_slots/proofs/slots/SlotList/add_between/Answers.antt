use Rattle.std.proofs.Common.{◌≡◌, ℕ, List, length, sym, subst, rules}
use Rattle.frame_slots.specs.SlotLists.{IsBetweenChildren, AreSlotsOf}
use Rattle.frame_slots.specs.declared.slot.Slot.{Slot}
use Rattle.frame_slots.proofs.SlotLists.{spared}
use Rattle.frame_slots.proofs.slots.SlotList.add_between.Goals as goal

pub returns-clause-slots : goal.returns-clause-slots
returns-clause-slots c =
    let old : List Slot = c.args.self.now.list.items in
    let gaps : List ℕ = c.args.self.now.gaps.words.items in
    let next : c.args.place ≡ length old = search rules in
    subst (λ (slots : List Slot). AreSlotsOf c.args.allocator.now slots gaps) (sym c.in-Ok.ensures.items)
    (spared c.args.allocator.now old c.of.result gaps c.requires.slots
    (subst (λ (n : ℕ). IsBetweenChildren n) next c.requires.place.between))
