-- Zones are opened, one after another.
use Rattle.std.proofs.Common.{◌≡◌, ℕ, ◌+◌, ◌<◌, List, [], ◌∷◌, ◌++◌, length, slice_index_or, All, refl, sym, ◌∙◌, ap, subst, arith, inl, inr, ◌%◌}
use Rattle.frame_model.specs.declared.key.Key.{Key}
use Rattle.std.proofs.lemmas.Bool.{cases_lt}
use Rattle.std.proofs.lemmas.List.{get_or_append_left, get_or_push, length_push, get_or_default}
use Rattle.core_frames.specs.declared.shared.allocator.Allocator.{Allocator}
use Rattle.core_frames.specs.declared.shared.allocator.Core.{Core}
use Rattle.core_frames.specs.Cores.{memory_of, IsNewCore, IsOpened}
use Rattle.frame_zones.specs.Sizes.{AreLaidOut, AreSized, HaveCores}
use Rattle.frame_zones.specs.Spans.{Place, MayComeAfter, MayBeZones, HoldsLawful}
use Rattle.frame_zones.specs.declared.spans.Span.{Span}
use Rattle.frame_zones.specs.Homes.{StaysNowhere}
use Rattle.frame_zones.specs.Openings.{AreNewCoresIn, HaveHomes, IsLonger, IsAt, AreAt, AreDealt, AreOpened}
use Rattle.frame_zones.specs.Zones.{zone_count}
use Rattle.frame_zones.specs.declared.zones.Zones.{Zones}
use Rattle.frame_zones.specs.declared.zones.ZoneCore.{ZoneCore}
use Rattle.frame_zones.specs.declared.zones.Stay.{Stay}
use Rattle.frame_zones.proofs.Lying.{one_at, ascending}

some_of : {X : Type 0} (xs : List X) → 0 < length xs → X
some_of [] within = absurd (omega (arith, within))
some_of (x ∷ xs) within = x

-- so many zones were opened, the first ones of the places
pub record IsOpening (total cores : ℕ) (places : List Place) (zones : List Allocator) (firsts : List ℕ)
    (all : List ZoneCore) : Type 0 where
  pub are_at : AreAt places firsts zones
  pub count : length firsts ≡ length zones
  pub as_many : length all ≡ cores
  pub homes : (k : ℕ) (c : ZoneCore) → k < length all → (slice_index_or all k c).home < total
  pub even : HaveHomes cores total all
  pub nowhere : All StaysNowhere all
  pub each : (k : ℕ) (c : ZoneCore) → k < length all → AreNewCoresIn zones (slice_index_or all k c)

-- an item of a list with one more at its end
pub more_at : {A B : Type 0} (P : A → B → Type 0) (xs : List A) (ys : List B) (x : A) (y : B) → length ys ≡ length xs
    → ((z : ℕ) (d : A) (e : B) → z < length xs → P (slice_index_or xs z d) (slice_index_or ys z e)) → P x y
    → (z : ℕ) (d : A) (e : B) → z < length (xs ++ x ∷ [])
    → P (slice_index_or (xs ++ x ∷ []) z d) (slice_index_or (ys ++ y ∷ []) z e)
more_at {A} {B} P xs ys x y same before last z d e within =
    elim (cases_lt z (length xs)) as (λ _. P (slice_index_or (xs ++ x ∷ []) z d) (slice_index_or (ys ++ y ∷ []) z e)) [
      | inl below ↦
          subst (λ (u : A). P u (slice_index_or (ys ++ y ∷ []) z e)) (sym (get_or_append_left xs (x ∷ []) d z below))
          (subst (λ (v : B). P (slice_index_or xs z d) v)
          (sym (get_or_append_left ys (y ∷ []) e z (subst (λ n. z < n) (sym same) below))) (before z d e below))
      | inr past ↦
          let at : length xs ≡ z = omega (arith, past, within, length_push xs x) in
          subst (λ (u : A). P u (slice_index_or (ys ++ y ∷ []) z e)) (sym (get_or_push xs x d z at))
          (subst (λ (v : B). P x v) (sym (get_or_push ys y e z (same ∙ at))) last)
    ]

pub opening_one : (total cores : ℕ) (places : List Place) (zones : List Allocator) (firsts : List ℕ)
    (all new : List ZoneCore) (p : Place) (a : Allocator) (parts : List Core)
    → IsOpening total cores places zones firsts all
    → IsOpened p.key a parts → p ≡ slice_index_or places (length zones) p
    → length zones < length places → length parts ≡ length all → AreDealt all parts new
    → IsOpening total cores places (zones ++ a ∷ []) (firsts ++ p.first ∷ []) new
opening_one total cores places zones firsts all new p a parts was opened is fewer same dealt = record {
  are_at = λ z t b within.
      elim (cases_lt z (length zones)) as (λ _. IsAt (slice_index_or places z t) (slice_index_or (firsts ++ p.first ∷ []) z 0) (slice_index_or (zones ++ a ∷ []) z b)) [
        | inl below ↦
            subst (λ n. IsAt (slice_index_or places z t) n (slice_index_or (zones ++ a ∷ []) z b))
            (sym (get_or_append_left firsts (p.first ∷ []) 0 z (subst (λ n. z < n) (sym was.count) below)))
            (subst (λ (e : Allocator). IsAt (slice_index_or places z t) (slice_index_or firsts z 0) e)
            (sym (get_or_append_left zones (a ∷ []) b z below)) (was.are_at z t b below))
        | inr past ↦
            let at : length zones ≡ z = omega (arith, past, within, length_push zones a) in
            let here : p ≡ slice_index_or places z t =
            is ∙ get_or_default places (length zones) p t fewer ∙ ap (λ i. slice_index_or places i t) at in
            subst (λ n. IsAt (slice_index_or places z t) n (slice_index_or (zones ++ a ∷ []) z b))
            (sym (get_or_push firsts p.first 0 z (was.count ∙ at)))
            (subst (λ (e : Allocator). IsAt (slice_index_or places z t) p.first e) (sym (get_or_push zones a b z at))
            (subst (λ (u : Place). IsAt u p.first a) here
            (record { first_frame = refl; memory = opened.memory; is_key = opened.is_key })))
      ];
  count = length_push firsts p.first ∙ ap (λ n. n + 1) was.count ∙ sym (length_push zones a);
  as_many = dealt.count ∙ was.as_many;
  homes = λ k c within.
      let here = subst (λ n. k < n) dealt.count within in
      subst (λ h. h < total) (sym (dealt.each k c (some_of parts (omega (arith, here, same))) here).home) (was.homes k c here);
  even = λ k c within.
      let here = subst (λ n. k < n) dealt.count within in
      (dealt.each k c (some_of parts (omega (arith, here, same))) here).home ∙ was.even k c here;
  nowhere = λ k c within.
      let here = subst (λ n. k < n) dealt.count within in
      subst (λ (l : List Stay). All (λ s. s.left ≡ 0) l)
      (sym (dealt.each k c (some_of parts (omega (arith, here, same))) here).same_stays) (was.nowhere k c here);
  each = λ k c within.
      let here = subst (λ n. k < n) dealt.count within in
      let old : ZoneCore = slice_index_or all k c in
      let part : Core = slice_index_or parts k (some_of parts (omega (arith, here, same))) in
      let longer : IsLonger old part (slice_index_or new k c) = dealt.each k c (some_of parts (omega (arith, here, same))) here in
      let before : AreNewCoresIn zones old = was.each k c here in
      record {
        count = ap length longer.items ∙ length_push old.cores.items part ∙ ap (λ n. n + 1) before.count ∙ sym (length_push zones a);
        each = λ z b x z-within. subst (λ (l : List Core). IsNewCore (slice_index_or (zones ++ a ∷ []) z b) (slice_index_or l z x))
            (sym longer.items)
            (more_at IsNewCore zones old.cores.items a part before.count before.each
            (opened.each k (some_of parts (omega (arith, here, same))) (subst (λ n. k < n) (sym same) here))
            z b x z-within);
      };
}

-- all zones lie as the places do
pub laid_out : (total cores : ℕ) (places : List Place) (zones : List Allocator) (firsts : List ℕ)
    (all : List ZoneCore) → MayBeZones cores places → IsOpening total cores places zones firsts all
    → length zones ≡ length places → AreLaidOut zones firsts
laid_out total cores places zones firsts all may was whole =
    let d : Place = some_of places (omega (arith, may.some)) in
    let follows : (i : ℕ) → i < length zones → MayComeAfter cores 0 (slice_index_or places i d) =
    λ i within. one_at cores 0 places i d (subst (λ n. i < n) whole within) may.apart in
    record {
      few = omega (arith, whole, may.few);
      count = was.count;
      aligned = λ i within.
          let a : Allocator = some_of zones (omega (arith, within)) in
          subst (λ n. n % 512 ≡ 0) (sym (was.are_at i d a within).first_frame) (follows i within).aligned;
      inside = λ i a within.
          let at = was.are_at i d a within in
          omega (arith, at.first_frame, ap (λ (k : Key). k.children) at.memory, (follows i within).inside);
      ascend = λ i j a less within.
          let at = was.are_at i d a (omega (arith, less, within)) in
          omega (
            arith,
            at.first_frame,
            ap (λ (k : Key). k.children) at.memory,
            (was.are_at j d a within).first_frame,
            ascending cores 0 places i j d d less (subst (λ n. j < n) whole within) may.apart,
          );
    }

-- each of them has so many cores
pub have_cores : (total cores : ℕ) (places : List Place) (zones : List Allocator) (firsts : List ℕ)
    (all : List ZoneCore) → MayBeZones cores places → IsOpening total cores places zones firsts all
    → length zones ≡ length places → HaveCores cores zones
have_cores total cores places zones firsts all may was whole z a within =
    let d : Place = some_of places (omega (arith, may.some)) in
    ap (λ (k : Key). k.cores) (was.are_at z d a within).memory
    ∙ (one_at cores 0 places z d (subst (λ n. z < n) whole within) may.apart).same_cores

pub opening_all : (zs : Zones) (total cores : ℕ) (places : List Place) (all : List ZoneCore)
    → MayBeZones cores places → IsOpening total cores places zs.zones.items zs.firsts.items all
    → zone_count zs ≡ total → zone_count zs ≡ length places → zs.cores ≡ cores → AreOpened cores places zs all
opening_all zs total cores places all may was whole count many = record {
  lawful = may;
  zones = count;
  as_many = many;
  are_at = was.are_at;
  count = was.as_many;
  homes = subst (λ n. HaveHomes cores n all) (sym whole) was.even;
  each = λ k c within.
      let new : AreNewCoresIn zs.zones.items (slice_index_or all k c) = was.each k c within in
      record {
        are_cores = record {
          parts = record { count = new.count; each = λ z a x z-within. (new.each z a x z-within).is_core };
          home = subst (λ n. (slice_index_or all k c).home < n) (sym whole) (was.homes k c within);
        };
        each = λ z a x z-within. new.each z a x z-within;
        nowhere = was.nowhere k c within;
      };
}

-- one span more may hold its ranges back
pub holds_one : (spans : List Span) (i : ℕ) (s : Span) → i < length spans → s ≡ slice_index_or spans i s
    → ((k : ℕ) (d : Span) → k < i → HoldsLawful (slice_index_or spans k d)) → HoldsLawful s
    → (k : ℕ) (d : Span) → k < i + 1 → HoldsLawful (slice_index_or spans k d)
holds_one spans i s within is before holds k d below =
    elim (cases_lt k i) as (λ _. HoldsLawful (slice_index_or spans k d)) [
      | inl less ↦ before k d less
      | inr past ↦
          let here : i ≡ k = omega (arith, past, below) in
          subst (λ (t : Span). HoldsLawful t)
          (is ∙ get_or_default spans i s d within ∙ ap (λ j. slice_index_or spans j d) here) holds
    ]

-- the frames of one zone more
pub sized_one : (zones : List Allocator) (frames : List ℕ) (a : Allocator) (n : ℕ) → AreSized zones frames
    → n ≡ (memory_of a).frames → AreSized (zones ++ a ∷ []) (frames ++ n ∷ [])
sized_one zones frames a n was is = record {
  count = omega (arith, was.count, length_push zones a, length_push frames n);
  each = λ z b within.
      more_at (λ (e : Allocator) m. m ≡ (memory_of e).frames) zones frames a n was.count
      (λ k d m k-within. get_or_default frames k m 0 (subst (λ i. k < i) (sym was.count) k-within) ∙ was.each k d k-within)
      is z b 0 within;
}
