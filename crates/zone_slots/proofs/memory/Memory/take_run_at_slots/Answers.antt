use Rattle.std.proofs.Common.{rules, inr, refl, Option, IfSome, IfNone, ◌∙◌, subst, arith}
use Rattle.frame_zones.specs.Uses.{KeepsAll}
use Rattle.frame_zones.specs.Zones.{InEach}
use Rattle.zone_slots.specs.Runs.{HasTakenRun, MissesSlot}
use Rattle.zone_slots.specs.Uses.{EachLendsSame}
use Rattle.zone_slots.specs.declared.parts.Parts.{Parts}
use Rattle.zone_slots.proofs.GoingBack.{misses_after}
use Rattle.zone_slots.proofs.RunsKept.{kept_twice, kept_by_look}
use Rattle.zone_slots.proofs.Running.{is_number, looked_same, same_twice, after_same_run, refused_for, refused_missed}
use Rattle.zone_slots.proofs.memory.Memory.take_run_at_slots.Goals as goal

pub returns-in_err-taken-clause-refused : goal.returns-in_err-taken-clause-refused
returns-in_err-taken-clause-refused c =
    let zs = c.args.self.now.zones in
    let same : EachLendsSame zs c.args.core.now c.look_for_run.new.core =
    same_twice zs c.args.core.now c.loop-first.core c.look_for_run.new.core c.loop-first.invariant.lent
    (looked_same zs c.loop-first.core c.look_for_run.new.core c.look_for_run.ensures.looks.each) in
    let kept : InEach zs KeepsAll c.args.core.now c.look_for_run.new.core =
    kept_twice zs c.args.core.now c.loop-first.core c.look_for_run.new.core c.loop-first.invariant.kept
    (kept_by_look zs c.loop-first.core c.look_for_run.new.core c.look_for_run.ensures.looks.each) in
    let missed : MissesSlot zs c.args.count c.look_for_run.new.core c.take_run_at.new.core c.args.slotless.now
    c.take_run_at.new.slotless c.take_run_at.new.last_back =
    subst (λ n. MissesSlot zs c.args.count c.look_for_run.new.core c.take_run_at.new.core n c.take_run_at.new.slotless
    c.take_run_at.new.last_back)
    c.loop-first.invariant.counted c.in_err-taken.ensures.missed.1 in
    let why = refused_missed zs c.args.count c.args.core.now c.take_run_at.new.core c.args.slotless.now
    c.take_run_at.new.slotless c.take_run_at.new.last_back c.in_err-taken.field-0.0 c.if-not-is_run_count.ensures
    c.in_err-taken.ensures.missed.0
    (misses_after zs c.args.count c.args.core.now c.look_for_run.new.core c.take_run_at.new.core c.args.slotless.now
    c.take_run_at.new.slotless c.take_run_at.new.last_back kept same missed) in
    search (rules, why)

pub returns-in-Some-taken-clause-taken : goal.returns-in-Some-taken-clause-taken
returns-in-Some-taken-clause-taken c =
    let zs = c.args.self.now.zones in
    after_same_run zs c.args.count c.in-Some-taken.parts c.args.core.now c.look_for_run.new.core c.take_run_at.new.core
    (same_twice zs c.args.core.now c.loop-first.core c.look_for_run.new.core c.loop-first.invariant.lent
    (looked_same zs c.loop-first.core c.look_for_run.new.core c.look_for_run.ensures.looks.each))
    (subst (λ (r : Option Parts). IfSome r (HasTakenRun zs c.args.count c.look_for_run.new.core c.take_run_at.new.core))
    c.in-Some-taken.is c.in_ok-taken.ensures.taken)

pub returns-clause-refused : goal.returns-clause-refused
returns-clause-refused c =
    let zs = c.args.self.now.zones in
    refused_for zs c.args.count c.args.core.now c.look_for_run.new.core c.args.slotless.now c.loop-first.slotless
    c.loop-first.last_back c.loop-first.contended c.refusal_of.result c.if-not-is_run_count.ensures
    (record {
      looks = record {
        from = c.loop-first.from;
        before = c.loop-first.core;
        look = c.in_default.ensures.looks;
        begins = c.loop-first.invariant.begins;
      };
      kept = kept_twice zs c.args.core.now c.loop-first.core c.look_for_run.new.core c.loop-first.invariant.kept
          (kept_by_look zs c.loop-first.core c.look_for_run.new.core c.look_for_run.ensures.looks.each);
      lent = same_twice zs c.args.core.now c.loop-first.core c.look_for_run.new.core c.loop-first.invariant.lent
          (looked_same zs c.loop-first.core c.look_for_run.new.core c.look_for_run.ensures.looks.each);
      counted = c.loop-first.invariant.counted;
    })
    c.refusal_of.ensures

pub loop-first-preserved : goal.loop-first-preserved
loop-first-preserved c =
    let zs = c.args.self.now.zones in
    let none : EachLendsSame zs c.look_for_run.new.core c.take_run_at.new.core =
    subst (λ (r : Option Parts). IfNone r (EachLendsSame zs c.look_for_run.new.core c.take_run_at.new.core))
    c.in_default-taken.is c.in_ok-taken.ensures.none in
    let found = c.in-Some.ensures.looks.some in
    record {
      cores = c.take_run_at.ensures.core;
      kept = kept_twice zs c.args.core.now c.look_for_run.new.core c.take_run_at.new.core
          (kept_twice zs c.args.core.now c.loop-first.core c.look_for_run.new.core c.loop-first.invariant.kept
          (kept_by_look zs c.loop-first.core c.look_for_run.new.core c.look_for_run.ensures.looks.each))
          c.take_run_at.ensures.kept;
      lent = same_twice zs c.args.core.now c.look_for_run.new.core c.take_run_at.new.core
          (same_twice zs c.args.core.now c.loop-first.core c.look_for_run.new.core c.loop-first.invariant.lent
          (looked_same zs c.loop-first.core c.look_for_run.new.core c.look_for_run.ensures.looks.each))
          none;
      counted = c.in_ok-taken.ensures.counted ∙ c.loop-first.invariant.counted;
      begins = inr (record {
        x = c.in-Some.first;
        zone = found.zone;
        local = found.local;
        is_run = found.is_run;
        behind = refl;
      });
      few = omega (
        arith,
        is_number zs c.in-Some.first found.zone found.local c.args.self.now.numbered found.is_run.is_there,
      );
    }

pub loop-first-smaller : goal.loop-first-smaller
loop-first-smaller c =
    let found = c.in-Some.ensures.looks.some in
    omega (
      arith,
      found.behind,
      is_number c.args.self.now.zones c.in-Some.first found.zone found.local c.args.self.now.numbered found.is_run.is_there,
    )

pub returns-in_err-taken-clause-kept : goal.returns-in_err-taken-clause-kept
returns-in_err-taken-clause-kept c =
    let zs = c.args.self.now.zones in
    kept_twice zs c.args.core.now c.look_for_run.new.core c.take_run_at.new.core
    (kept_twice zs c.args.core.now c.loop-first.core c.look_for_run.new.core c.loop-first.invariant.kept
    (kept_by_look zs c.loop-first.core c.look_for_run.new.core c.look_for_run.ensures.looks.each))
    c.take_run_at.ensures.kept

pub returns-in-Some-taken-clause-kept : goal.returns-in-Some-taken-clause-kept
returns-in-Some-taken-clause-kept c =
    let zs = c.args.self.now.zones in
    kept_twice zs c.args.core.now c.look_for_run.new.core c.take_run_at.new.core
    (kept_twice zs c.args.core.now c.loop-first.core c.look_for_run.new.core c.loop-first.invariant.kept
    (kept_by_look zs c.loop-first.core c.look_for_run.new.core c.look_for_run.ensures.looks.each))
    c.take_run_at.ensures.kept

pub returns-clause-kept : goal.returns-clause-kept
returns-clause-kept c =
    let zs = c.args.self.now.zones in
    kept_twice zs c.args.core.now c.loop-first.core c.look_for_run.new.core c.loop-first.invariant.kept
    (kept_by_look zs c.loop-first.core c.look_for_run.new.core c.look_for_run.ensures.looks.each)
