use Rattle.std.proofs.Common.{rules, ◌+◌, ◌<◌, sym, ◌∙◌, subst}
use Rattle.frame_zones.specs.Uses.{KeepsAll}
use Rattle.frame_zones.specs.Zones.{first_frame_of, InEach, AreCoresOf}
use Rattle.zone_slots.specs.Layouts.{most_numbers}
use Rattle.zone_slots.specs.Runs.{IsRefusedRun}
use Rattle.zone_slots.specs.declared.memory.Memory.{Memory}
use Rattle.zone_slots.proofs.Running.{run_fits}
use Rattle.zone_slots.proofs.core_state.CoreState.take_run.Goals as goal

pub returns-in_err-parts-clause-refused : goal.returns-in_err-parts-clause-refused
returns-in_err-parts-clause-refused c =
    let why = subst
    (λ (m : Memory). IsRefusedRun m.zones c.args.count c.args.self.now.core c.take_run_at_slots.new.core
    c.args.self.now.slotless c.take_run_at_slots.new.slotless c.take_run_at_slots.new.last_back
    c.in_err-parts.field-0.0)
    c.deref.ensures c.in_err-parts.ensures.refused in
    search (rules, why)

pub number_at-frame-requires-clause-fits : goal.number_at-frame-requires-clause-fits
number_at-frame-requires-clause-fits c =
    subst (λ (m : Memory). first_frame_of m.zones c.in_ok-parts.parts.zone + c.in_ok-parts.parts.frame < most_numbers)
    (c.deref.ensures ∙ sym c.deref-2.ensures)
    (run_fits c.deref.result.now.zones c.args.count c.args.self.now.core c.take_run_at_slots.new.core c.in_ok-parts.parts
    c.deref.result.now.numbered
    (subst (λ (m : Memory). AreCoresOf m.zones c.args.self.now.core) (sym c.deref.ensures) c.args.self.now.is_core)
    c.in_ok-parts.ensures.taken)

pub returns-clause-taken : goal.returns-clause-taken
returns-clause-taken c =
    let kept = subst (λ (m : Memory). InEach m.zones KeepsAll c.args.self.now.core c.take_run_at_slots.new.core)
    c.deref.ensures c.in_ok-parts.ensures.kept in
    search (rules, kept)
