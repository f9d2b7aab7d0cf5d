-- Cores keep their homes from an opening on.
use Rattle.std.proofs.Common.{◌≡◌, ℕ, zero, suc, ◌<◌, List, [], ◌∷◌, ◌++◌, length, map, slice_index_or, sym, ◌∙◌, ap, subst, arith, inl, inr, append_assoc}
use Rattle.std.specs.List.{remove}
use Rattle.std.proofs.lemmas.Bool.{cases_lt}
use Rattle.std.proofs.lemmas.List.{get_or_append_left, get_or_push, length_push, reverse-append}
use Rattle.frame_zones.specs.Openings.{HaveHomes}
use Rattle.frame_zones.specs.declared.zones.ZoneCore.{ZoneCore}
use Rattle.zone_slots.specs.Openings.{parts_from_last, HaveSameHomes}
use Rattle.zone_slots.specs.declared.core_state.CoreState.{CoreState}

-- the last core changed, and not its home
pub home_kept : (xs : List ZoneCore) (c d : ZoneCore) → d.home ≡ c.home → HaveSameHomes (xs ++ c ∷ []) (xs ++ d ∷ [])
home_kept xs c d same k e within =
    elim (cases_lt k (length xs)) as (λ _. (slice_index_or (xs ++ d ∷ []) k e).home ≡ (slice_index_or (xs ++ c ∷ []) k e).home) [
      | inl below ↦
          ap (λ (z : ZoneCore). z.home)
          (get_or_append_left xs (d ∷ []) e k below ∙ sym (get_or_append_left xs (c ∷ []) e k below))
      | inr past ↦
          let at : length xs ≡ k = omega (arith, past, within, length_push xs d) in
          ap (λ (z : ZoneCore). z.home) (get_or_push xs d e k at) ∙ same
          ∙ sym (ap (λ (z : ZoneCore). z.home) (get_or_push xs c e k at))
    ]

pub homes_still : (cores zones : ℕ) (old new : List ZoneCore) → length new ≡ length old → HaveHomes cores zones old
    → HaveSameHomes old new → HaveHomes cores zones new
homes_still cores zones old new count homes same k c within = same k c within ∙ homes k c (subst (λ n. k < n) count within)

-- the first core apart from the others
pub homes_first : (cores zones : ℕ) (old new : List ZoneCore) (c d : ZoneCore) → new ≡ remove old 0 → c ≡ slice_index_or old 0 c
    → 0 < length old → d.home ≡ c.home → HaveHomes cores zones old → HaveHomes cores zones (d ∷ new)
homes_first cores zones [] new c d is at some same homes = absurd (omega (arith, some))
homes_first cores zones (x ∷ xs) new c d is at some same homes =
    subst (λ (l : List ZoneCore). HaveHomes cores zones (d ∷ l)) (sym is) here
  where
    here : HaveHomes cores zones (d ∷ xs)
    here zero e within = same ∙ ap (λ (z : ZoneCore). z.home) at ∙ homes zero e within
    here (suc k) e within = homes (suc k) e within

-- one core more stands behind the others
pub part_more : (states : List CoreState) (s : CoreState) (c : ZoneCore) → s.core ≡ c
    → parts_from_last (states ++ s ∷ []) ≡ c ∷ parts_from_last states
part_more states s c same =
    ap (λ (ss : List CoreState). map (λ t. t.core) ss) (reverse-append states (s ∷ []))
    ∙ ap (λ (d : ZoneCore). d ∷ parts_from_last states) same

-- it was the last one
pub order_more : (cores rest all : List ZoneCore) (c : ZoneCore) (states : List CoreState) (s : CoreState)
    → cores ≡ rest ++ c ∷ [] → s.core ≡ c → cores ++ parts_from_last states ≡ all
    → rest ++ parts_from_last (states ++ s ∷ []) ≡ all
order_more cores rest all c states s is same so =
    ap (λ (cs : List ZoneCore). rest ++ cs) (part_more states s c same)
    ∙ sym (append_assoc rest (c ∷ []) (parts_from_last states))
    ∙ ap (λ (cs : List ZoneCore). cs ++ parts_from_last states) (sym is)
    ∙ so
