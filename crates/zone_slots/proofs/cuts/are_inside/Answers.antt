use Rattle.std.proofs.Common.{arith, ⊎_elim, ℕ, ◌+◌, ◌-◌, ◌≡◌, ◌≤◌, ◌<◌, length}
use Rattle.std.proofs.lemmas.Bool.{cases_lt}
use Rattle.zone_slots.specs.Layouts.{stretch_at, end_of}
use Rattle.zone_slots.specs.Cuts.{Meet}
use Rattle.zone_slots.proofs.Laid.{below_next}
use Rattle.zone_slots.proofs.Cutting.{in_hole}
use Rattle.zone_slots.proofs.cuts.are_inside.Goals as goal

pub returns-then-meet : goal.returns-then-meet
returns-then-meet c inside =
    let meet : Meet c.loop-first.from c.from.result c.args.ranges.now = c.if-meet.ensures in
    in_hole c.args.zones.now c.loop-first.from meet.0 c.loop-first.first-index c.requires.zones
    c.loop-first.invariant.below meet.1 (λ _. omega (arith, meet.2, c.from.ensures)) (inside meet.0 meet.3)

pub loop-first-preserved : goal.loop-first-preserved
loop-first-preserved c =
    let zones = c.args.zones.now in
    let i = c.loop-first.first-index in
    let next = c.from-in-loop-first.result + c.from-in-loop-first-2.result in
    let ends : next ≡ end_of (stretch_at zones i) =
    omega (arith, c.from-in-loop-first.ensures, c.from-in-loop-first-2.ensures) in
    let first : c.from.result ≡ (stretch_at zones i).0 = c.from.ensures in
    record {
      below = below_next zones i next c.requires.zones c.loop-first-test.true ends;
      inside = λ x before lies.
          ⊎_elim (λ (h : x < c.loop-first.from). c.loop-first.invariant.inside x h lies)
          (λ (h : c.loop-first.from ≤ x).
          ⊎_elim (λ (front : x < c.from.result). absurd (c.if-meet.ensures (x, h, front, lies)))
          (λ (at : c.from.result ≤ x). (i, c.loop-first-test.true, (omega (arith, at, first), omega (arith, before, ends))))
          (cases_lt x c.from.result))
          (cases_lt x c.loop-first.from);
    }

pub returns-then-ends_at_or_below-ranges : goal.returns-then-ends_at_or_below-ranges
returns-then-ends_at_or_below-ranges c inside =
    let n = c.ends_at_or_below.result in
    let r : ℕ × ℕ = stretch_at c.args.ranges.now n in
    let within : n < length c.args.ranges.now = c.if-ends_at_or_below-ranges.true in
    let some : 1 ≤ r.1 = c.requires.ranges.some n within in
    let behind : c.loop-first.from < end_of r = c.ends_at_or_below.ensures.behind n (omega arith) within in
    let x : ℕ = end_of r - 1 in
    in_hole c.args.zones.now c.loop-first.from x c.loop-first.first-index c.requires.zones
    c.loop-first.invariant.below (omega arith) (λ next. absurd (omega (arith, next, c.loop-first-test.false)))
    (inside x (n, within, (omega arith, omega arith)))
