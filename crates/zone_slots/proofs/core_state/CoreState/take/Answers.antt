use Rattle.std.proofs.Common.{rules, ◌<◌, sym, ◌∙◌, subst}
use Rattle.frame_zones.specs.Zones.{AreCoresOf}
use Rattle.zone_slots.specs.Layouts.{most_numbers}
use Rattle.zone_slots.specs.Memories.{number_for}
use Rattle.zone_slots.specs.Uses.{IsRefusedTake}
use Rattle.zone_slots.specs.declared.memory.Memory.{Memory}
use Rattle.zone_slots.proofs.Lifted.{number_fits}
use Rattle.zone_slots.proofs.core_state.CoreState.take.Goals as goal

pub returns-in_err-receipt-clause-refused : goal.returns-in_err-receipt-clause-refused
returns-in_err-receipt-clause-refused c =
    let why = subst
    (λ (m : Memory). IsRefusedTake m.zones c.args.order c.args.self.now.core c.take_at_slot.new.core
    c.args.self.now.slotless c.take_at_slot.new.slotless c.in_err-receipt.field-0.0)
    c.deref.ensures c.in_err-receipt.ensures.refused in
    search (rules, why)

pub number_of-frame-requires-clause-fits : goal.number_of-frame-requires-clause-fits
number_of-frame-requires-clause-fits c =
    subst (λ (m : Memory). number_for m.zones c.in_ok-receipt.receipt < most_numbers)
    (c.deref.ensures ∙ sym c.deref-2.ensures)
    (number_fits c.deref.result.now.zones c.args.order c.args.self.now.core c.take_at_slot.new.core c.in_ok-receipt.receipt
    c.deref.result.now.numbered
    (subst (λ (m : Memory). AreCoresOf m.zones c.args.self.now.core) (sym c.deref.ensures) c.args.self.now.is_core)
    c.in_ok-receipt.ensures.taken)
