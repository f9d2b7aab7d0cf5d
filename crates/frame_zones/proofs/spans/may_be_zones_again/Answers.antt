use Rattle.std.proofs.Common.{◌≡◌, ◌+◌, ◌≤◌, ℕ, List, map, drop, sym, subst, ap, ◌∙◌}
use Rattle.std.proofs.lemmas.List.{length-map}
use Rattle.frame_words.specs.declared.geometry.Geometry.{Geometry}
use Rattle.frame_zones.specs.Spans.{most_zones, AreSpans, MayLie, end_at, end_of_place, place_at}
use Rattle.frame_zones.specs.declared.image.ZoneImage.{ZoneImage}
use Rattle.frame_zones.proofs.Lying.{next_read, rest_read, with_read, none_read}
use Rattle.frame_zones.proofs.spans.may_be_zones_again.Goals as goal

pub returns-then-not-may_follow : goal.returns-then-not-may_follow
returns-then-not-may_follow c h =
    c.if-not-may_follow.ensures
    (subst (λ (g : Geometry). MayLie c.args.cores c.loop-zone.from c.zone-item.result.first g.cores g.children)
    (sym c.geometry-geometry.ensures.value)
    (next_read c.args.cores c.loop-zone.from c.loop-zone.zone-index place_at c.args.images.now c.zone-item.result
    c.loop-zone-test.true c.zone-item.is (c.loop-zone.invariant.part h.apart)))

pub loop-zone-preserved : goal.loop-zone-preserved
loop-zone-preserved c =
    let cores : ℕ = c.args.cores in
    let from : ℕ = c.loop-zone.from in
    let i : ℕ = c.loop-zone.zone-index in
    let items : List ZoneImage = c.args.images.now in
    let s : ZoneImage = c.zone-item.result in
    let inv = c.loop-zone.invariant in
    let ends : c.end_of-from.result ≡ end_of_place (place_at s) =
    c.end_of-from.ensures ∙ ap (λ (g : Geometry). end_at s.first g.children) c.geometry-geometry.ensures.value in
    record {
      some = inv.some;
      few = inv.few;
      whole = λ h. inv.whole (with_read cores from i place_at items s c.loop-zone-test.true c.zone-item.is
          (subst (λ (g : Geometry). MayLie cores from s.first g.cores g.children) c.geometry-geometry.ensures.value
          c.if-not-may_follow.ensures)
          (subst (λ n. AreSpans cores n (drop (i + 1) (map place_at items))) ends h));
      part = λ h. subst (λ n. AreSpans cores n (drop (i + 1) (map place_at items))) (sym ends)
          (rest_read cores from i place_at items s c.loop-zone-test.true c.zone-item.is (inv.part h));
    }

pub returns : goal.returns
returns c = record {
  some = subst (λ n. 1 ≤ n) (sym (length-map c.args.images.now place_at)) c.loop-zone.invariant.some;
  few = subst (λ n. n ≤ most_zones) (sym (length-map c.args.images.now place_at)) c.loop-zone.invariant.few;
  apart = c.loop-zone.invariant.whole
      (none_read c.args.cores c.loop-zone.from c.loop-zone.zone-index place_at c.args.images.now c.loop-zone-test.false);
}
