use Rattle.std.proofs.Common.{rules, inr, refl, sym, subst}
use Rattle.frame_zones.specs.declared.zones.ZoneCore.{ZoneCore}
use Rattle.zone_slots.specs.Uses.{HasTakenFor}
use Rattle.zone_slots.proofs.Lifted.{refused_take, found_no_slot, taken_for}
use Rattle.zone_slots.proofs.memory.Memory.take_at_slot.Goals as goal

pub returns-in_err-held-clause-refused : goal.returns-in_err-held-clause-refused
returns-in_err-held-clause-refused c =
    let takes = c.in_err-held.ensures.takes in
    let why = refused_take c.args.self.now.zones c.args.order c.args.core.now c.take.new.core c.args.slotless.now
    c.in_err-held.field-0.0
    (takes.err.0, takes.err.1, takes.kept, c.take.ensures.all_moves) in
    search (rules, why)

pub returns-in_default-clause-refused : goal.returns-in_default-clause-refused
returns-in_default-clause-refused c =
    inr (found_no_slot c.args.self.now.zones c.args.order c.in_ok-held.held c.args.core.now c.take.new.core
    c.lay_down.new.core c.args.slotless.now _ c.requires c.in_ok-held.ensures.takes.kept c.take.ensures.all_moves
    c.in_ok-held.ensures.takes.ok c.lay_down.ensures.moves c.in_default.ensures.given refl)

pub returns-clause-taken : goal.returns-clause-taken
returns-clause-taken c =
    subst (λ (d : ZoneCore). HasTakenFor c.args.self.now.zones c.args.order c.args.core.now d c.in-Some.receipt)
    (sym c.in-Some.ensures.rests)
    (taken_for c.args.self.now.zones c.args.order c.in_ok-held.held c.in-Some.receipt c.args.core.now c.take.new.core
    c.requires c.in_ok-held.ensures.takes.kept c.take.ensures.all_moves c.in_ok-held.ensures.takes.ok
    c.in-Some.ensures.same)
