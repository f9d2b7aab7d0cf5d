-- A list of slots grows by one slot, or by a gap.
use Rattle.std.proofs.Common.{◌≡◌, ⊎_elim, ℕ, zero, suc, ◌+◌, ◌*◌, ◌/◌, ◌%◌, ◌^◌, ◌<◌, ◌≤◌, List, [], ◌∷◌, ◌++◌, length, refl, sym, subst, ap, ◌∙◌, arith}
use Rattle.std.proofs.Math.Nat.{pow-suc}
use Rattle.std.proofs.lemmas.Bool.{cases_lt}
use Rattle.std.proofs.lemmas.List.{get_or_append_left, get_or_push, length_push}
use Rattle.std.proofs.lemmas.Nat.{mod-pow-add, pow_pos}
use Rattle.core_frames.specs.declared.shared.allocator.Allocator.{Allocator}
use Rattle.frame_slots.specs.SlotLists.{place_for, IsBetweenChildren, IsGap, AreSlotsOf}
use Rattle.frame_slots.specs.Slots.{IsSlotFor}
use Rattle.frame_slots.specs.declared.slot.Slot.{Slot}

-- half of a number that two halves of a size divide
half : (o f : ℕ) → f % 2 ^ suc o ≡ 0 → (f % 2 ≡ 0) × (f / 2 % 2 ^ o ≡ 0)
half o f aligned =
    let more : o + 1 ≡ suc o = omega arith in
    let parts : f % 2 ^ suc o ≡ f / 2 % 2 ^ o * 2 + f % 2 = ap (λ n. f % 2 ^ n) (sym more) ∙ mod-pow-add f o 1 in
    (omega (arith, aligned, parts), omega (arith, aligned, parts))

-- of aligned blocks no two have one place
one_sum : (f o g p : ℕ) → f % 2 ^ o ≡ 0 → g % 2 ^ p ≡ 0 → 2 * f + 2 ^ o ≡ 2 * g + 2 ^ p → (f ≡ g) × (o ≡ p)
one_sum f zero g zero _ _ e = (omega (arith, e), refl)
one_sum f zero g (suc p) _ _ e = absurd (omega (arith, e, pow-suc 2 p))
one_sum f (suc o) g zero _ _ e = absurd (omega (arith, e, pow-suc 2 o))
one_sum f (suc o) g (suc p) fits too e =
    let a = half o f fits in
    let b = half p g too in
    let rest = one_sum (f / 2) o (g / 2) p a.1 b.1 (omega (arith, e, a.0, b.0, pow-suc 2 o, pow-suc 2 p)) in
    (omega (arith, a.0, b.0, rest.0), omega (arith, rest.1))

pub one_place : (f o g p : ℕ) → f % 2 ^ o ≡ 0 → g % 2 ^ p ≡ 0 → place_for f o ≡ place_for g p → (f ≡ g) × (o ≡ p)
one_place f o g p fits too e = one_sum f o g p fits too (omega (arith, e, pow_pos o, pow_pos p))

-- no block up to an order ends where whole blocks of a higher one do, by its place
no_whole : (o n f k : ℕ) → o < n → f % 2 ^ o ≡ 0 → 2 * f + 2 ^ o ≡ 2 ^ n * k → ⊥
no_whole o zero f k less _ _ = omega (arith, less)
no_whole zero (suc n) f k _ _ e = omega (arith, e, ap (λ m. m * k) (pow-suc 2 n))
no_whole (suc o) (suc n) f k less fits e =
    let a = half o f fits in
    no_whole o n (f / 2) k (omega (arith, less)) a.1
    (omega (arith, e, a.0, pow-suc 2 o, ap (λ m. m * k) (pow-suc 2 n)))

between : (frame order : ℕ) → order ≤ 9 → frame % 2 ^ order ≡ 0 → IsBetweenChildren (place_for frame order) → ⊥
between frame order few fits e =
    no_whole order 10 frame ((2 * frame + 2 ^ order) / 1024) (omega (arith, few)) fits
    (omega (arith, e, pow_pos order))

module _ (a : Allocator) (old : List Slot) (slot : Slot) (gaps more : List ℕ) where
  -- all that was there is still there, and what is said of the last place holds
  grown : AreSlotsOf a old gaps → ((x : ℕ) → IsGap gaps x → IsGap more x)
      → ((frame order : ℕ) → order ≤ 9 → frame % 2 ^ order ≡ 0 → place_for frame order ≡ length old
      → ¬ IsGap more (length old) → IsSlotFor a frame order slot)
      → AreSlotsOf a (old ++ slot ∷ []) more
  grown before keeps last frame order d few fits less free =
      let x : ℕ = place_for frame order in
      ⊎_elim
      (λ (inside : x < length old).
      subst (λ (p : Slot). IsSlotFor a frame order p) (sym (get_or_append_left old (slot ∷ []) d x inside))
      (before frame order d few fits inside (λ gap. free (keeps x gap))))
      (λ behind.
      let here : x ≡ length old = omega (arith, behind, less, length_push old slot) in
      subst (λ (p : Slot). IsSlotFor a frame order p) (sym (get_or_push old slot d x (sym here)))
      (last frame order few fits here (λ gap. free (subst (λ (n : ℕ). IsGap more n) (sym here) gap))))
      (cases_lt x (length old))

  -- by a gap, whatever stands there
  pub skipped : AreSlotsOf a old gaps → ((x : ℕ) → IsGap gaps x → IsGap more x) → IsGap more (length old)
      → AreSlotsOf a (old ++ slot ∷ []) more
  skipped before keeps gap = grown before keeps (λ _ _ _ _ _ free. absurd (free gap))

module _ (a : Allocator) (old : List Slot) (slot : Slot) (gaps : List ℕ) (f o : ℕ) where
  -- by the slot of the block whose place is the next one
  pub added : AreSlotsOf a old gaps → IsSlotFor a f o slot → place_for f o ≡ length old
      → AreSlotsOf a (old ++ slot ∷ []) gaps
  added before slot_for next = grown a old slot gaps gaps before (λ _ gap. gap) (λ frame order _ fits here _.
      let same = one_place f o frame order slot_for.is_block.aligned fits (next ∙ sym here) in
      subst (λ (n : ℕ). IsSlotFor a frame n slot) same.1 (subst (λ (n : ℕ). IsSlotFor a n o slot) same.0 slot_for))

module _ (a : Allocator) (old : List Slot) (slot : Slot) (gaps : List ℕ) where
  -- by a place between children, whatever stands there
  pub spared : AreSlotsOf a old gaps → IsBetweenChildren (length old) → AreSlotsOf a (old ++ slot ∷ []) gaps
  spared before at = grown a old slot gaps gaps before (λ _ gap. gap) (λ frame order few fits here _.
      absurd (between frame order few fits (subst (λ (n : ℕ). IsBetweenChildren n) (sym here) at)))
