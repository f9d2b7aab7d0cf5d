-- Zones are opened at images, one after another, and what they held is adopted.
use Rattle.std.proofs.Common.{◌≡◌, ℕ, ◌+◌, ◌<◌, List, [], ◌∷◌, ◌++◌, length, slice_index_or, slice_set, refl, sym, ◌∙◌, ap, subst, arith, length-set, get_or-set_same, get_or-set_other, inl, inr}
use Rattle.std.proofs.lemmas.Bool.{cases_lt, cases_eq}
use Rattle.std.proofs.lemmas.List.{get_or_append_left, get_or_push, length_push, get_or_default}
use Rattle.core_frames.specs.declared.shared.allocator.Allocator.{Allocator}
use Rattle.core_frames.specs.declared.shared.survivors.Survivors.{Survivors}
use Rattle.core_frames.specs.Left.{left_blocks, IsSurvivorsOf}
use Rattle.frame_zones.specs.Reopening.{held_in_image, AreLeftOf, AreSurvivorsOf, AreHeldAt}
use Rattle.frame_zones.specs.Zones.{zone_count, zone_at}
use Rattle.frame_zones.specs.declared.image.ZoneImage.{ZoneImage}
use Rattle.frame_zones.specs.declared.zones.Zones.{Zones}
use Rattle.frame_zones.proofs.Begun.{more_at}

pub left_none : AreLeftOf [] []
left_none = record { count = refl; each = λ z a s within. absurd (omega (arith, within)) }

pub left_one : (zones : List Allocator) (left : List Survivors) (a : Allocator) (s : Survivors) → AreLeftOf zones left
    → IsSurvivorsOf a s → AreLeftOf (zones ++ a ∷ []) (left ++ s ∷ [])
left_one zones left a s was here = record {
  count = length_push left s ∙ ap (λ n. n + 1) was.count ∙ sym (length_push zones a);
  each = more_at IsSurvivorsOf zones left a s was.count was.each here;
}

pub held_one : (n : ℕ) (images : List ZoneImage) (left : List Survivors) (i : ZoneImage) (s : Survivors)
    → length left ≡ n → n < length images → i ≡ slice_index_or images n i → AreHeldAt n images left
    → left_blocks s ≡ held_in_image i → AreHeldAt (n + 1) images (left ++ s ∷ [])
held_one n images left i s count within is was here z j t below =
    elim (cases_lt z n) as (λ _. left_blocks (slice_index_or (left ++ s ∷ []) z t) ≡ held_in_image (slice_index_or images z j)) [
      | inl less ↦
          ap (λ (e : Survivors). left_blocks e) (get_or_append_left left (s ∷ []) t z (subst (λ m. z < m) (sym count) less))
          ∙ was z j t less
      | inr past ↦
          let at : n ≡ z = omega (arith, past, below) in
          ap (λ (e : Survivors). left_blocks e) (get_or_push left s t z (count ∙ at))
          ∙ here
          ∙ ap (λ (e : ZoneImage). held_in_image e)
          (is ∙ get_or_default images n i j within ∙ ap (λ m. slice_index_or images m j) at)
    ]

-- what one zone holds, as both were read
pub left_read : (zs : Zones) (left : List Survivors) (z : ℕ) (a : Allocator) (s : Survivors) → AreSurvivorsOf zs left
    → z < zone_count zs → a ≡ zone_at zs z a → s ≡ slice_index_or left z s → IsSurvivorsOf a s
left_read zs left z a s are within a-is s-is =
    subst (λ (b : Allocator). IsSurvivorsOf b s) (sym a-is)
    (subst (λ (t : Survivors). IsSurvivorsOf (zone_at zs z a) t) (sym s-is) (are.each z a s within))

-- one zone's was written
pub left_written : (zs : Zones) (left new : List Survivors) (z : ℕ) (a : Allocator) (s : Survivors) → AreSurvivorsOf zs left
    → z < zone_count zs → a ≡ zone_at zs z a → new ≡ slice_set left z s → IsSurvivorsOf a s → AreSurvivorsOf zs new
left_written zs left new z a s are within a-is new-is here = record {
  count = ap length new-is ∙ length-set left z s ∙ are.count;
  each = λ k b t k-within.
      subst (λ (l : List Survivors). IsSurvivorsOf (zone_at zs k b) (slice_index_or l k t)) (sym new-is)
      (elim (cases_eq k z) as (λ _. IsSurvivorsOf (zone_at zs k b) (slice_index_or (slice_set left z s) k t)) [
        | inl same ↦ subst (λ j. IsSurvivorsOf (zone_at zs j b) (slice_index_or (slice_set left z s) j t)) (sym same)
            (subst (λ (u : Survivors). IsSurvivorsOf (zone_at zs z b) u)
            (sym (get_or-set_same left z s t (subst (λ n. z < n) (sym are.count) within)))
            (subst (λ (e : Allocator). IsSurvivorsOf e s) (a-is ∙ get_or_default zs.zones.items z a b within) here))
        | inr other ↦ subst (λ (u : Survivors). IsSurvivorsOf (zone_at zs k b) u)
            (sym (get_or-set_other left z k s t other)) (are.each k b t k-within)
      ]);
}
