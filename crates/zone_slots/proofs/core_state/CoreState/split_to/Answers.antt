use Rattle.std.proofs.Common.{rules, subst}
use Rattle.frame_zones.specs.Uses.{KeepsAll}
use Rattle.frame_zones.specs.Zones.{InEach}
use Rattle.zone_slots.specs.Parts.{IsRefusedSplitTo}
use Rattle.zone_slots.specs.declared.memory.Memory.{Memory}
use Rattle.zone_slots.proofs.core_state.CoreState.split_to.Goals as goal

pub returns-in_err-parts-clause-refused : goal.returns-in_err-parts-clause-refused
returns-in_err-parts-clause-refused c =
    let why = subst
    (λ (m : Memory). IsRefusedSplitTo m.zones c.args.order c.args.to c.args.frame c.args.self.now.core c.split_to_at_slot.new.core
    c.args.self.now.slotless c.split_to_at_slot.new.slotless c.in_err-parts.field-0.0)
    c.deref.ensures c.in_err-parts.ensures.refused in
    let kept = subst (λ (m : Memory). InEach m.zones KeepsAll c.args.self.now.core c.split_to_at_slot.new.core)
    c.deref.ensures c.in_err-parts.ensures.kept in
    search (rules, why, kept)
