use Rattle.std.proofs.Common.{rules, inr, refl, sym, subst}
use Rattle.frame_zones.specs.declared.zones.ZoneCore.{ZoneCore}
use Rattle.zone_slots.specs.Places.{TakesPlaceByNumber}
use Rattle.zone_slots.proofs.Placed.{placed_by_number, placed_laid, refused_place, place_without_slot}
use Rattle.zone_slots.proofs.memory.Memory.take_this_at_slot.Goals as goal

pub returns-in_err-held-clause-refused : goal.returns-in_err-held-clause-refused
returns-in_err-held-clause-refused c =
    let takes = c.in_err-held.ensures.takes in
    let why = refused_place c.args.self.now.zones c.args.frame c.args.order c.args.core.now c.take_this.new.core
    c.args.slotless.now c.in_err-held.field-0.0
    (takes.err.0, takes.err.1, takes.kept, c.take_this.ensures.all_moves) in
    search (rules, why)

pub returns-in_default-clause-refused : goal.returns-in_default-clause-refused
returns-in_default-clause-refused c =
    inr (place_without_slot c.args.self.now.zones c.args.frame c.args.order c.in_ok-held.held c.args.core.now
    c.take_this.new.core c.lay_down.new.core c.args.slotless.now _ c.requires c.in_ok-held.ensures.takes.kept
    c.take_this.ensures.all_moves c.in_ok-held.ensures.takes.ok c.lay_down.ensures.moves c.in_default.ensures.given
    refl)

pub returns-clause-taken : goal.returns-clause-taken
returns-clause-taken c =
    subst (λ (d : ZoneCore). TakesPlaceByNumber c.args.self.now.zones c.args.order c.args.frame c.args.core.now d)
    (sym c.in-Some.ensures.rests)
    (placed_by_number c.args.self.now.zones c.args.frame c.args.order c.in_ok-held.held c.args.core.now
    c.take_this.new.core c.requires c.in_ok-held.ensures.takes.kept c.take_this.ensures.all_moves
    c.in_ok-held.ensures.takes.ok)

pub returns-clause-laid : goal.returns-clause-laid
returns-clause-laid c =
    placed_laid c.args.self.now.zones c.args.frame c.args.order c.in_ok-held.held c.in-Some.receipt c.args.core.now
    c.take_this.new.core c.requires c.in_ok-held.ensures.takes.ok c.in-Some.ensures.same
