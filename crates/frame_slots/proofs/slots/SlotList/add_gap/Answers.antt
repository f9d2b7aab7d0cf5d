use Rattle.std.proofs.Common.{◌≡◌, ℕ, List, length, sym, subst, rules}
use Rattle.frame_slots.specs.SlotLists.{IsGap, AreSlotsOf}
use Rattle.frame_slots.specs.declared.slot.Slot.{Slot}
use Rattle.frame_slots.proofs.SlotLists.{skipped}
use Rattle.frame_slots.proofs.slots.SlotList.add_gap.Goals as goal

pub returns-clause-slots : goal.returns-clause-slots
returns-clause-slots c =
    let old : List Slot = c.args.self.now.list.items in
    let more : List ℕ = c.add.new.self.words.items in
    let next : c.args.place ≡ length old = search rules in
    subst (λ (slots : List Slot). AreSlotsOf c.args.allocator.now slots more) (sym c.in-Ok.ensures.items)
    (skipped c.args.allocator.now old c.of.result c.args.self.now.gaps.words.items more c.requires.slots
    c.in_ok-add.ensures.keeps (subst (λ (n : ℕ). IsGap more n) next c.in_ok-add.ensures.added))
