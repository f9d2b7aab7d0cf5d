use Rattle.std.proofs.Common.{◌≡◌, ◌<◌, refl, sym, ◌∙◌, ap, subst, arith}
use Rattle.frame_zones.specs.Zones.{zone_count}
use Rattle.zone_slots.specs.Runs.{LendsFewer}
use Rattle.zone_slots.specs.declared.parts.Parts.{Parts}
use Rattle.zone_slots.proofs.GoingBack.{missed_left}
use Rattle.zone_slots.proofs.Running.{all_given}
use Rattle.zone_slots.proofs.RunsKept.{kept_twice}
use Rattle.zone_slots.proofs.memory.Memory.take_run_at.Goals as goal

pub returns-then-misses_slot-clause-missed : goal.returns-then-misses_slot-clause-missed
returns-then-misses_slot-clause-missed c =
    let zs = c.args.self.now.zones in
    let q : Parts = c.take_parts.new.parts in
    let p : Parts = c.none-parts.result in
    let within : p.zone < zone_count zs =
    subst (λ k. k < zone_count zs) (sym (ap (λ (r : Parts). r.zone) c.none-parts.ensures)) c.in-Some.ensures.found.zone in (
      refl,
      record {
        kept = kept_twice zs c.args.core.now c.take_parts.new.core c.give_run_back-back.new.core c.take_parts.ensures.kept
            c.give_run_back-back.ensures.kept;
        counted = refl;
        what = c.give_run_back-back.result;
        very = refl;
        missed = c.misses_slot.ensures.some c.if-misses_slot.true;
        lent = missed_left zs c.args.count q.count p.zone p.frame c.give_run_back-back.result c.args.core.now
            c.take_parts.new.core c.give_run_back-back.new.core within
            (ap (λ (r : Parts). r.zone) c.give_run_back-back.ensures.parts ∙ c.take_parts.ensures.parts.zone)
            (ap (λ (r : Parts). r.order) c.give_run_back-back.ensures.parts ∙ c.take_parts.ensures.parts.order
            ∙ ap (λ (r : Parts). r.order) c.none-parts.ensures)
            (ap (λ (r : Parts). r.count) c.give_run_back-back.ensures.parts) c.take_parts.ensures.few
            (c.give_run_back-back.ensures.all ∙ sym (ap (λ (r : Parts). r.count) c.give_run_back-back.ensures.parts))
            c.take_parts.ensures.taken
            (subst (λ z. LendsFewer zs c.give_run_back-back.result.given c.take_parts.new.core c.give_run_back-back.new.core z)
            c.take_parts.ensures.parts.zone c.give_run_back-back.ensures.lent);
      },
    )

pub returns-then-contended-clause-none : goal.returns-then-contended-clause-none
returns-then-contended-clause-none c =
    let zs = c.args.self.now.zones in
    let q : Parts = c.take_parts.new.parts in
    let p : Parts = c.none-parts.result in
    let within : p.zone < zone_count zs =
    subst (λ k. k < zone_count zs) (sym (ap (λ (r : Parts). r.zone) c.none-parts.ensures)) c.in-Some.ensures.found.zone in
    let all : q.count ≡ c.give_run_back-back.result.given =
    omega (arith, c.misses_slot.ensures.none c.if-misses_slot.false, c.give_run_back-back.ensures.all) in
    all_given zs q.count c.give_run_back-back.result.given p.zone p.frame c.args.core.now c.take_parts.new.core
    c.give_run_back-back.new.core within all c.take_parts.ensures.taken
    (subst (λ z. LendsFewer zs c.give_run_back-back.result.given c.take_parts.new.core c.give_run_back-back.new.core z)
    c.take_parts.ensures.parts.zone c.give_run_back-back.ensures.lent)

pub returns-else-contended-clause-none : goal.returns-else-contended-clause-none
returns-else-contended-clause-none c =
    let zs = c.args.self.now.zones in
    let q : Parts = c.take_parts.new.parts in
    let p : Parts = c.none-parts.result in
    let within : p.zone < zone_count zs =
    subst (λ k. k < zone_count zs) (sym (ap (λ (r : Parts). r.zone) c.none-parts.ensures)) c.in-Some.ensures.found.zone in
    let all : q.count ≡ c.give_run_back-back.result.given =
    omega (arith, c.misses_slot.ensures.none c.if-misses_slot.false, c.give_run_back-back.ensures.all) in
    all_given zs q.count c.give_run_back-back.result.given p.zone p.frame c.args.core.now c.take_parts.new.core
    c.give_run_back-back.new.core within all c.take_parts.ensures.taken
    (subst (λ z. LendsFewer zs c.give_run_back-back.result.given c.take_parts.new.core c.give_run_back-back.new.core z)
    c.take_parts.ensures.parts.zone c.give_run_back-back.ensures.lent)

pub returns-then-misses_slot-clause-kept : goal.returns-then-misses_slot-clause-kept
returns-then-misses_slot-clause-kept c =
    kept_twice c.args.self.now.zones c.args.core.now c.take_parts.new.core c.give_run_back-back.new.core
    c.take_parts.ensures.kept c.give_run_back-back.ensures.kept

pub returns-then-contended-clause-kept : goal.returns-then-contended-clause-kept
returns-then-contended-clause-kept c =
    kept_twice c.args.self.now.zones c.args.core.now c.take_parts.new.core c.give_run_back-back.new.core
    c.take_parts.ensures.kept c.give_run_back-back.ensures.kept

pub returns-else-contended-clause-kept : goal.returns-else-contended-clause-kept
returns-else-contended-clause-kept c =
    kept_twice c.args.self.now.zones c.args.core.now c.take_parts.new.core c.give_run_back-back.new.core
    c.take_parts.ensures.kept c.give_run_back-back.ensures.kept
