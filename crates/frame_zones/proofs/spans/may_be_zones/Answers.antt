use Rattle.std.proofs.Common.{◌+◌, ◌≤◌, ℕ, List, map, drop, sym, subst}
use Rattle.std.proofs.lemmas.List.{length-map}
use Rattle.frame_zones.specs.Spans.{most_zones, AreSpans, place_of_span}
use Rattle.frame_zones.specs.declared.spans.Span.{Span}
use Rattle.frame_zones.proofs.Lying.{next_read, rest_read, with_read, none_read}
use Rattle.frame_zones.proofs.spans.may_be_zones.Goals as goal

pub returns-then-not-may_follow : goal.returns-then-not-may_follow
returns-then-not-may_follow c h =
    c.if-not-may_follow.ensures
    (next_read c.args.cores c.loop-span.from c.loop-span.span-index place_of_span c.args.spans.now c.span-item.result
    c.loop-span-test.true c.span-item.is (c.loop-span.invariant.part h.apart))

pub loop-span-preserved : goal.loop-span-preserved
loop-span-preserved c =
    let cores : ℕ = c.args.cores in
    let from : ℕ = c.loop-span.from in
    let i : ℕ = c.loop-span.span-index in
    let items : List Span = c.args.spans.now in
    let s : Span = c.span-item.result in
    let inv = c.loop-span.invariant in
    record {
      some = inv.some;
      few = inv.few;
      whole = λ h. inv.whole (with_read cores from i place_of_span items s c.loop-span-test.true c.span-item.is
          c.if-not-may_follow.ensures
          (subst (λ n. AreSpans cores n (drop (i + 1) (map place_of_span items))) c.end_of-from.ensures h));
      part = λ h. subst (λ n. AreSpans cores n (drop (i + 1) (map place_of_span items))) (sym c.end_of-from.ensures)
          (rest_read cores from i place_of_span items s c.loop-span-test.true c.span-item.is (inv.part h));
    }

pub returns : goal.returns
returns c = record {
  some = subst (λ n. 1 ≤ n) (sym (length-map c.args.spans.now place_of_span)) c.loop-span.invariant.some;
  few = subst (λ n. n ≤ most_zones) (sym (length-map c.args.spans.now place_of_span)) c.loop-span.invariant.few;
  apart = c.loop-span.invariant.whole
      (none_read c.args.cores c.loop-span.from c.loop-span.span-index place_of_span c.args.spans.now c.loop-span-test.false);
}
