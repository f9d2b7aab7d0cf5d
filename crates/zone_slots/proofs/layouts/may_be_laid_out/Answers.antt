use Rattle.std.proofs.Common.{arith, below_more, ◌≡◌, ◌<◌, ◌≤◌, ◌-◌, ⊎_elim, subst}
use Rattle.std.proofs.lemmas.Bool.{cases_lt}
use Rattle.zone_slots.specs.Layouts.{stretch_at, EndsBelow, MayBeZone}
use Rattle.zone_slots.proofs.Laid.{ends_last, pairs_more}
use Rattle.zone_slots.proofs.layouts.may_be_laid_out.Goals as goal

pub loop-first-preserved : goal.loop-first-preserved
loop-first-preserved c =
    let inv = c.loop-first.invariant in
    let i = c.loop-first.first-index in
    let zones = c.args.zones.now in
    let may = c.if-not-may_follow.ensures in
    let behind : c.loop-first.from ≤ (stretch_at zones i).0 = may.1 in
    record {
      some = inv.some;
      few = inv.few;
      each = below_more (λ z. MayBeZone (stretch_at zones z)) i inv.each may.0;
      apart = pairs_more (λ y z. EndsBelow (stretch_at zones y) (stretch_at zones z)) i inv.apart
          (λ y less. ⊎_elim (λ (h : y < i - 1). omega (arith, inv.apart y (i - 1) h (omega arith), inv.last (omega arith)))
          (λ (h : i - 1 ≤ y). let same : i - 1 ≡ y = omega arith in
          subst (λ k. EndsBelow (stretch_at zones k) (stretch_at zones i)) same (omega (arith, behind, inv.last (omega arith)))) (cases_lt y (i - 1)));
      start = λ none. absurd (omega (arith, none));
      last = λ _. ends_last zones i c.from.result c.from-in-loop-first.result c.div_ceil.result c.from.ensures c.div_ceil.ensures c.from-in-loop-first.ensures;
    }

pub returns : goal.returns
returns c =
    let inv = c.loop-first.invariant in
    let past = c.loop-first-test.false in
    record {
      some = inv.some;
      few = inv.few;
      each = λ z h. inv.each z (omega arith);
      apart = λ y z less h. inv.apart y z less (omega arith);
    }
