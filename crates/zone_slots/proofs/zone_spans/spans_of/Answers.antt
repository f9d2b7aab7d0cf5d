use Rattle.std.proofs.Common.{arith, ◌+◌, ◌<◌, ℕ, List, subst, sym, get_or}
use Rattle.frame_zones.specs.declared.spans.Span.{Span}
use Rattle.zone_slots.specs.Layouts.{stretch_at}
use Rattle.zone_slots.specs.ZoneSpans.{IsSpanOf}
use Rattle.zone_slots.proofs.Spanning.{span_added, may_be_opened}
use Rattle.zone_slots.proofs.zone_spans.spans_of.Goals as goal

pub loop-first-preserved : goal.loop-first-preserved
loop-first-preserved c =
    let cores : ℕ = c.args.cores in
    let i : ℕ = c.loop-first.first-index in
    record {
      count = omega (arith, c.push_reserved.ensures.len, c.loop-first.invariant.count);
      room = omega (arith, c.push_reserved.ensures.capacity, c.loop-first.invariant.room);
      each = subst (λ (ss : List Span). (z : ℕ) (s : Span) → z < i + 1
          → IsSpanOf cores c.args.ranges.now (stretch_at c.args.zones.now z) (get_or ss z s))
          (sym c.push_reserved.ensures.items)
          (span_added cores i c.args.zones.now c.args.ranges.now c.loop-first.spans.items c.in-Ok-span_of.span
          (omega (arith, c.loop-first.invariant.count)) c.loop-first.invariant.each c.in-Ok-span_of.ensures);
    }

pub returns-clause-opened : goal.returns-clause-opened
returns-clause-opened c =
    may_be_opened c.args.cores c.args.zones.now c.args.ranges.now c.loop-first.spans.items c.if-not-may_be_laid_out.ensures
    (record {
      count = omega (arith, c.loop-first.invariant.count, c.loop-first-test.false, c.loop-first.auto);
      each = λ z s h. c.loop-first.invariant.each z s (omega (arith, h, c.loop-first-test.false));
    })
