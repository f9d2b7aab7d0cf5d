-- The last zone and its cores.
use Rattle.std.proofs.Common.{◌≡◌, ℕ, ◌+◌, ◌%◌, ◌<◌, ◌≤◌, List, [], ◌∷◌, ◌++◌, length, slice_index_or, refl, sym, ◌∙◌, ap, subst, arith}
use Rattle.std.specs.List.{All}
use Rattle.std.proofs.lemmas.List.{get_or_append_left, get_or_push, length_push}
use Rattle.std.proofs.lemmas.List.Elements.{All-get_or}
use Rattle.core_frames.specs.declared.shared.allocator.Allocator.{Allocator}
use Rattle.core_frames.specs.declared.shared.allocator.Core.{Core}
use Rattle.core_frames.specs.Cores.{memory_of, IsCoreOf}
use Rattle.frame_zones.specs.Openings.{IsLonger, AreDealt}
use Rattle.frame_zones.specs.Parting.{PartsOff}
use Rattle.frame_zones.specs.Zones.{HasCoresIn}
use Rattle.frame_zones.specs.Sizes.{AreLaidOut, AreSized, HaveCores, end_from}
use Rattle.frame_zones.specs.Spans.{most_zone_frames}
use Rattle.frame_zones.specs.declared.zones.ZoneCore.{ZoneCore}

pub some_of : {X : Type 0} (xs : List X) → 0 < length xs → X
some_of [] within = absurd (omega (arith, within))
some_of (x ∷ xs) within = x

same_count : (c d : ZoneCore) (part : Core) (new old : ℕ) → IsLonger c part d → length d.cores.items ≡ old
    → old ≡ new + 1 → length c.cores.items ≡ new
same_count c d part new old longer count one =
    omega (arith, ap length longer.items, length_push c.cores.items part, count, one)

pub parts_off : (old : List Allocator) (a : Allocator) (new : List Allocator) (all : List ZoneCore) (parts : List Core)
    (left : List ZoneCore) → old ≡ new ++ a ∷ [] → All (HasCoresIn old) all → AreDealt left parts all
    → length parts ≡ length left → PartsOff old a new all parts left
parts_off old a new all parts left is are dealt count =
    let one : length old ≡ length new + 1 = ap length is ∙ length_push new a in
    record {
      zones = is;
      dealt = dealt;
      count = count;
      parts_in = (λ k x within.
          let here : k < length left = subst (λ n. k < n) count within in
          let c : ZoneCore = some_of left (omega (arith, here)) in
          let l : ZoneCore = slice_index_or left k c in
          let longer : IsLonger l (slice_index_or parts k x) (slice_index_or all k c) = dealt.each k c x here in
          let was : HasCoresIn old (slice_index_or all k c) = All-get_or (HasCoresIn old) all k c (subst (λ n. k < n) (sym dealt.count) here) are in
          let few : length l.cores.items ≡ length new = same_count l (slice_index_or all k c) (slice_index_or parts k x) (length new) (length old) longer was.count one in
          subst (λ (b : Allocator). IsCoreOf b (slice_index_or parts k x))
          (ap (λ (m : List Allocator). slice_index_or m (length new) a) is ∙ get_or_push new a a (length new) refl)
          (subst (λ (y : Core). IsCoreOf (slice_index_or old (length new) a) y)
          (ap (λ (m : List Core). slice_index_or m (length new) x) longer.items ∙ get_or_push l.cores.items (slice_index_or parts k x) x (length new) few)
          (was.each (length new) a x (omega (arith, one)))));
      left_in = (λ k c here.
          let x : Core = some_of parts (omega (arith, here, count)) in
          let l : ZoneCore = slice_index_or left k c in
          let longer : IsLonger l (slice_index_or parts k x) (slice_index_or all k c) = dealt.each k c x here in
          let was : HasCoresIn old (slice_index_or all k c) = All-get_or (HasCoresIn old) all k c (subst (λ n. k < n) (sym dealt.count) here) are in
          let few : length l.cores.items ≡ length new = same_count l (slice_index_or all k c) (slice_index_or parts k x) (length new) (length old) longer was.count one in
          record {
            count = few;
            each = λ z b y within.
                subst (λ (e : Allocator). IsCoreOf e (slice_index_or l.cores.items z y))
                (ap (λ (m : List Allocator). slice_index_or m z b) is ∙ get_or_append_left new (a ∷ []) b z within)
                (subst (λ (e : Core). IsCoreOf (slice_index_or old z b) e)
                (ap (λ (m : List Core). slice_index_or m z y) longer.items
                ∙ get_or_append_left l.cores.items (slice_index_or parts k x ∷ []) y z (subst (λ n. z < n) (sym few) within))
                (was.each z b y (omega (arith, within, one))));
          });
    }

-- the zones that are left lie as before
pub laid_less : (zones us : List Allocator) (firsts gs : List ℕ) (a : Allocator) (first : ℕ)
    → zones ≡ us ++ a ∷ [] → firsts ≡ gs ++ first ∷ [] → AreLaidOut zones firsts → AreLaidOut us gs
laid_less zones us firsts gs a first is firsts-is laid =
    let one : length zones ≡ length us + 1 = ap length is ∙ length_push us a in
    let ones : length firsts ≡ length gs + 1 = ap length firsts-is ∙ length_push gs first in
    let at : (i : ℕ) → i < length us → slice_index_or firsts i 0 ≡ slice_index_or gs i 0 =
    λ i within. ap (λ (l : List ℕ). slice_index_or l i 0) firsts-is
    ∙ get_or_append_left gs (first ∷ []) 0 i (omega (arith, within, one, ones, laid.count)) in
    let zone-at : (i : ℕ) (d : Allocator) → i < length us → slice_index_or zones i d ≡ slice_index_or us i d =
    λ i d within. ap (λ (l : List Allocator). slice_index_or l i d) is ∙ get_or_append_left us (a ∷ []) d i within in
    record {
      few = omega (arith, one, laid.few);
      count = omega (arith, one, ones, laid.count);
      aligned = λ i within. subst (λ n. n % 512 ≡ 0) (at i within) (laid.aligned i (omega (arith, one, within)));
      inside = λ i d within.
          subst (λ n. end_from n (slice_index_or us i d) ≤ most_zone_frames) (at i within)
          (subst (λ (e : Allocator). end_from (slice_index_or firsts i 0) e ≤ most_zone_frames) (zone-at i d within)
          (laid.inside i d (omega (arith, one, within))));
      ascend = λ i j d less within.
          let i-within : i < length us = omega (arith, less, within) in
          subst (λ n. end_from (slice_index_or gs i 0) (slice_index_or us i d) ≤ n) (at j within)
          (subst (λ n. end_from n (slice_index_or us i d) ≤ slice_index_or firsts j 0) (at i i-within)
          (subst (λ (e : Allocator). end_from (slice_index_or firsts i 0) e ≤ slice_index_or firsts j 0) (zone-at i d i-within)
          (laid.ascend i j d less (omega (arith, one, within)))));
    }

-- they have as many frames as before
pub sized_less : (zones us : List Allocator) (frames ns : List ℕ) (a : Allocator) (n : ℕ)
    → zones ≡ us ++ a ∷ [] → frames ≡ ns ++ n ∷ [] → AreSized zones frames → AreSized us ns
sized_less zones us frames ns a n is frames-is was =
    let one : length zones ≡ length us + 1 = ap length is ∙ length_push us a in
    let ones : length frames ≡ length ns + 1 = ap length frames-is ∙ length_push ns n in
    let count : length ns ≡ length us = omega (arith, one, ones, was.count) in
    record {
      count = count;
      each = λ z b within.
          sym (ap (λ (l : List ℕ). slice_index_or l z 0) frames-is
          ∙ get_or_append_left ns (n ∷ []) 0 z (subst (λ m. z < m) (sym count) within))
          ∙ was.each z b (omega (arith, one, within))
          ∙ ap (λ (e : Allocator). (memory_of e).frames)
          (ap (λ (l : List Allocator). slice_index_or l z b) is ∙ get_or_append_left us (a ∷ []) b z within);
    }

-- they have as many cores as before
pub cores_less : (n : ℕ) (zones us : List Allocator) (a : Allocator) → zones ≡ us ++ a ∷ [] → HaveCores n zones
    → HaveCores n us
cores_less n zones us a is have z b within =
    subst (λ (e : Allocator). (memory_of e).cores ≡ n)
    (ap (λ (l : List Allocator). slice_index_or l z b) is ∙ get_or_append_left us (a ∷ []) b z within)
    (have z b (omega (arith, within, ap length is, length_push us a)))
