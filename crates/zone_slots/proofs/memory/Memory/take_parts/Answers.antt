use Rattle.std.proofs.Common.{◌≡◌, ◌∙◌, ap, sym, subst, arith}
use Rattle.zone_slots.specs.Parts.{AreMore}
use Rattle.zone_slots.specs.Runs.{TakesRunInZone, frame_in_run}
use Rattle.zone_slots.specs.Uses.{TakesInZone}
use Rattle.zone_slots.proofs.Running.{is_number, then_same, one_more_taken, ends_inside}
use Rattle.zone_slots.proofs.RunsKept.{kept_twice}
use Rattle.zone_slots.proofs.memory.Memory.take_parts.Goals as goal

pub overflow_add-frame : goal.overflow_add-frame
overflow_add-frame c =
    omega (
      arith,
      c.from.ensures,
      is_number c.args.self.now.zones c.args.first c.args.parts.now.zone c.args.parts.now.frame c.args.self.now.numbered
          c.requires.first,
    )

pub returns-in-Some-clause-taken : goal.returns-in-Some-clause-taken
returns-in-Some-clause-taken c =
    let zs = c.args.self.now.zones in
    let p = c.args.parts.now in
    let count : c.take_part.new.parts.count ≡ c.loop-i.i =
    omega (arith, ap (λ q. q.count) c.in-Some.ensures.same, c.loop-i.invariant.parts.count, c.requires.none.1) in
    subst (λ n. TakesRunInZone zs n c.args.core.now c.take_part.new.core p.zone p.frame) (sym count)
    (then_same zs c.loop-i.i p.zone p.frame c.args.core.now c.loop-i.core c.take_part.new.core c.requires.first.zone
    c.loop-i.invariant.taken c.in-Some.ensures.lent)

pub loop-i-preserved : goal.loop-i-preserved
loop-i-preserved c =
    let zs = c.args.self.now.zones in
    let p = c.args.parts.now in
    let q = c.loop-i.parts in
    let r = c.take_part.new.parts in
    let inv = c.loop-i.invariant in
    let more : AreMore 1 q r = c.in_default.ensures.laid in
    let count : q.count ≡ c.loop-i.i = omega (arith, inv.parts.count, c.requires.none.1) in
    let place : frame_in_run q.frame q.count ≡ frame_in_run p.frame c.loop-i.i =
    omega (arith, count, inv.parts.frame) in
    let one : TakesInZone zs 9 c.loop-i.core c.take_part.new.core p.zone (frame_in_run p.frame c.loop-i.i) =
    subst (λ z. TakesInZone zs 9 c.loop-i.core c.take_part.new.core z (frame_in_run p.frame c.loop-i.i)) inv.parts.zone
    (subst (λ f. TakesInZone zs 9 c.loop-i.core c.take_part.new.core q.zone f) place c.in_default.ensures.taken) in
    record {
      cores = c.take_part.ensures.core;
      kept = kept_twice zs c.args.core.now c.loop-i.core c.take_part.new.core inv.kept c.take_part.ensures.kept;
      parts = record {
        zone = more.zone ∙ inv.parts.zone;
        frame = more.frame ∙ inv.parts.frame;
        order = more.order ∙ inv.parts.order;
        count = omega (arith, more.count, inv.parts.count);
      };
      taken = one_more_taken zs c.loop-i.i p.zone p.frame c.args.core.now c.loop-i.core c.take_part.new.core inv.taken one;
      end = record {
        ends = omega (
          arith,
          more.frame,
          more.count,
          inv.parts.frame,
          count,
          ends_inside zs p.zone p.frame c.loop-i.i c.loop-i.core c.take_part.new.core inv.cores c.requires.first.zone one,
        );
      };
    }

pub returns-in-Some-clause-kept : goal.returns-in-Some-clause-kept
returns-in-Some-clause-kept c =
    kept_twice c.args.self.now.zones c.args.core.now c.loop-i.core c.take_part.new.core c.loop-i.invariant.kept
    c.take_part.ensures.kept
