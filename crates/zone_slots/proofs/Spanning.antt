-- The spans of zones that may be laid out may be zones.
use Rattle.std.proofs.Common.{◌≡◌, ℕ, zero, suc, ◌+◌, ◌*◌, ◌%◌, ◌<◌, ◌≤◌, List, [], ◌∷◌, length, get_or, map, arith, ap, subst, sym, ◌∙◌, ◌++◌, ⊎_elim}
use Rattle.std.proofs.lemmas.Bool.{cases_lt}
use Rattle.std.proofs.lemmas.List.{get_or-map, get_or_default, get_or_append_left, get_or_at, length-map}
use Rattle.frame_words.specs.declared.geometry.Geometry.{Geometry}
use Rattle.frame_zones.specs.Spans.{Place, place_of_span, end_of_place, AreSpans, MayComeAfter, MayBeZones}
use Rattle.frame_zones.specs.declared.spans.Span.{Span}
use Rattle.zone_slots.specs.Layouts.{Stretch, stretch_at, end_of_children, MayBeLaidOut, MayBeZone}
use Rattle.frame_slots.specs.Numbers.{child_count_of}
use Rattle.zone_slots.specs.Openings.{HasNumbers, MayBeOpened}
use Rattle.zone_slots.specs.ZoneSpans.{AreSpansOf, IsSpanOf}

-- places lie one after another where each may lie at all and ends below each later one
pub are_spans : (cores from : ℕ) (places : List Place)
    → ((k : ℕ) (d : Place) → k < length places → MayComeAfter cores 0 (get_or places k d))
    → ((j k : ℕ) (d : Place) → j < k → k < length places → end_of_place (get_or places j d) ≤ (get_or places k d).first)
    → ((d : Place) → 0 < length places → from ≤ (get_or places 0 d).first) → AreSpans cores from places
unfolding AreSpans
are_spans cores from [] each apart behind = tt
are_spans cores from (p ∷ ps) each apart behind =
    let here : MayComeAfter cores 0 p = each zero p (omega arith) in (
      record {
        same_cores = here.same_cores;
        aligned = here.aligned;
        behind = behind p (omega arith);
        inside = here.inside;
      },
      are_spans cores (end_of_place p) ps (λ k d h. each (suc k) d (omega (arith, h)))
          (λ j k d less h. apart (suc j) (suc k) d (omega (arith, less)) (omega (arith, h)))
          (λ d some. apart zero (suc zero) d (omega arith) (omega (arith, some))),
    )

-- a zone has as many children as its geometry
pub children_of : (g : Geometry) → 512 * g.children ≡ 512 * child_count_of g.frames
children_of g = omega (arith, g.some_children, g.last_child_begun, g.frames_in_children)

-- the span of a zone may lie where the zone may
span_lies : (cores : ℕ) (ranges : List Stretch) (zone : Stretch) (s : Span) → MayBeZone zone
    → IsSpanOf cores ranges zone s → MayComeAfter cores 0 (place_of_span s)
span_lies cores ranges zone s may is =
    let counted : 512 * s.geometry.children ≡ 512 * child_count_of s.geometry.frames = children_of s.geometry in
    let frames : s.geometry.frames ≡ zone.1 = is.frames in
    let few : s.geometry.children ≤ 4096 = s.geometry.few_children in
    record {
      same_cores = is.same_cores;
      aligned = subst (λ n. n % 512 ≡ 0) (sym is.first) may.aligned;
      behind = omega arith;
      inside = omega (arith, is.first, may.inside, few);
    }

-- where its last child ends
span_ends : (cores : ℕ) (ranges : List Stretch) (zone : Stretch) (s : Span)
    → IsSpanOf cores ranges zone s → end_of_place (place_of_span s) ≡ end_of_children zone
span_ends cores ranges zone s is =
    let counted : 512 * s.geometry.children ≡ 512 * child_count_of s.geometry.frames = children_of s.geometry in
    let same : child_count_of s.geometry.frames ≡ child_count_of zone.1 = ap child_count_of is.frames in
    omega (arith, is.first, counted, same)

place_at : (spans : List Span) (k : ℕ) (d : Place) (s : Span) → k < length spans
    → get_or (map place_of_span spans) k d ≡ place_of_span (get_or spans k s)
place_at spans k d s within =
    get_or_default (map place_of_span spans) k d (place_of_span s) (subst (λ n. k < n) (sym (length-map spans place_of_span)) within)
    ∙ get_or-map place_of_span spans k s (place_of_span s) within

pub spans_lie : (cores : ℕ) (zones ranges : List Stretch) (spans : List Span) → MayBeLaidOut zones
    → AreSpansOf cores zones ranges spans → MayBeZones cores (map place_of_span spans)
spans_lie cores zones ranges [] laid are = absurd (omega (arith, laid.some, are.count))
spans_lie cores zones ranges (x ∷ xs) laid are =
    let spans : List Span = x ∷ xs in
    let as_many : length (map place_of_span spans) ≡ length zones = length-map spans place_of_span ∙ are.count in
    let at : (k : ℕ) → k < length (map place_of_span spans) → k < length zones = λ k h. subst (λ n. k < n) as_many h in
    let is_at : (k : ℕ) (d : Place) → k < length zones → get_or (map place_of_span spans) k d ≡ place_of_span (get_or spans k x) =
    λ k d h. place_at spans k d x (omega (arith, h, are.count)) in
    record {
      some = omega (arith, as_many, laid.some);
      few = omega (arith, as_many, laid.few);
      apart = are_spans cores 0 (map place_of_span spans)
          (λ k d h. subst (λ p. MayComeAfter cores 0 p) (sym (is_at k d (at k h)))
          (span_lies cores ranges (stretch_at zones k) (get_or spans k x) (laid.each k (at k h)) (are.each k x (at k h))))
          (λ j k d less h.
          let low : j < length zones = omega (arith, less, at k h) in
          omega (
            arith,
            laid.apart j k less (at k h),
            ap end_of_place (is_at j d low),
            span_ends cores ranges (stretch_at zones j) (get_or spans j x) (are.each j x low),
            ap (λ (p : Place). p.first) (is_at k d (at k h)),
            (are.each k x (at k h)).first,
          ))
          (λ d some. omega arith);
    }

-- the span of one zone more
pub span_added : (cores i : ℕ) (zones ranges : List Stretch) (spans : List Span) (s : Span) → length spans ≡ i
    → ((z : ℕ) (d : Span) → z < i → IsSpanOf cores ranges (stretch_at zones z) (get_or spans z d))
    → IsSpanOf cores ranges (stretch_at zones i) s
    → (z : ℕ) (d : Span) → z < i + 1 → IsSpanOf cores ranges (stretch_at zones z) (get_or (spans ++ s ∷ []) z d)
span_added cores i zones ranges spans s count each last z d less =
    ⊎_elim (λ (h : z < i).
    subst (λ (x : Span). IsSpanOf cores ranges (stretch_at zones z) x)
    (sym (get_or_append_left spans (s ∷ []) d z (omega (arith, count, h)))) (each z d h))
    (λ (h : i ≤ z).
    let same : i ≡ z = omega arith in
    subst (λ (x : Span). IsSpanOf cores ranges (stretch_at zones z) x)
    (sym (get_or_at spans s [] d z (omega (arith, count, same))))
    (subst (λ n. IsSpanOf cores ranges (stretch_at zones n) s) same last))
    (cases_lt z i)

-- the span of a zone ends where frames have numbers
has_numbers : (cores : ℕ) (ranges : List Stretch) (zone : Stretch) (s : Span) → MayBeZone zone
    → IsSpanOf cores ranges zone s → HasNumbers s
has_numbers cores ranges zone s may is =
    let ends : end_of_place (place_of_span s) ≡ end_of_children zone = span_ends cores ranges zone s is in
    omega (arith, ends, may.aligned, may.inside)

pub may_be_opened : (cores : ℕ) (zones ranges : List Stretch) (spans : List Span) → MayBeLaidOut zones
    → AreSpansOf cores zones ranges spans → MayBeOpened cores spans
may_be_opened cores zones ranges spans laid are = record {
  lie = spans_lie cores zones ranges spans laid are;
  numbers = λ k s h.
      let within : k < length zones = omega (arith, h, are.count) in
      has_numbers cores ranges (stretch_at zones k) (get_or spans k s) (laid.each k within) (are.each k s within);
  lawful = λ k s h. (are.each k s (omega (arith, h, are.count))).lawful;
}
