use Rattle.std.proofs.Common.{rules, subst}
use Rattle.frame_zones.specs.Uses.{KeepsAll}
use Rattle.frame_zones.specs.Zones.{InEach}
use Rattle.zone_slots.specs.Refusals.{IsRefusedSplit}
use Rattle.zone_slots.specs.declared.memory.Memory.{Memory}
use Rattle.zone_slots.proofs.core_state.CoreState.split.Goals as goal

pub returns-in_err-halves-clause-refused : goal.returns-in_err-halves-clause-refused
returns-in_err-halves-clause-refused c =
    let why = subst
    (λ (m : Memory). IsRefusedSplit m.zones c.args.order c.args.frame c.args.self.now.core c.split_at_slot.new.core
    c.args.self.now.slotless c.split_at_slot.new.slotless c.in_err-halves.field-0.0)
    c.deref.ensures c.in_err-halves.ensures.refused in
    let kept = subst (λ (m : Memory). InEach m.zones KeepsAll c.args.self.now.core c.split_at_slot.new.core)
    c.deref.ensures c.in_err-halves.ensures.kept in
    search (rules, why, kept)
