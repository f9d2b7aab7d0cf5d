-- Bits of a word, of which the lowest goes, one after the other.
use Rattle.std.proofs.Common.{◌≡◌, ◌≢◌, ⊎_elim, ℕ, zero, suc, ◌+◌, ◌-◌, ◌/◌, ◌%◌, ◌^◌, ◌<◌, ◌≤◌, ap, sym, ◌∙◌, arith}
use Rattle.std.specs.Int.{bit_at, bit_not, w64, trailing_zeros}
use Rattle.std.specs.Int.Bits.{bit_and, bit_or}
use Rattle.std.specs.Int.Count.{ones}
use Rattle.std.proofs.lemmas.Bool.{cases_lt, cases_eq}
use Rattle.std.proofs.lemmas.Nat.{and_le_l, or_lt}
use Rattle.std.proofs.lemmas.Nat.Bits.{bit_at_lowest, bit_at-suc, bit_at-zero, bit_at-lt, bit_at_and, bit_at_or, bit_at_not, bit_at-trailing_zeros}
use Rattle.std.proofs.lemmas.Nat.Bits.{same_from_bits_below}
use Rattle.frame_model.specs.Words.{run}
use Rattle.frame_model.proofs.Bits.{ones_disjoint, ones_run, run-lt, bit_at_run_inside, bit_at_run_below, bit_at_run_above}
use Rattle.frame_model.proofs.Sets.{bit_at_full}

-- the bit is set, and none below it
pub record IsLowest (n i : ℕ) : Type 0 where
  pub inside : i < 64
  pub is_set : bit_at n i ≡ 1
  pub none_below : (j : ℕ) → j < i → bit_at n j ≡ 0

pub lowest_of : (n : ℕ) → 0 < n → n < 2 ^ 64 → IsLowest n (trailing_zeros w64 n)
lowest_of n some fits = let t = bit_at-trailing_zeros w64 n some fits in record { inside = t.0; is_set = t.1; none_below = t.2 }

-- of a number less one the lowest bit is clear, and those above it are as before
less_one : (i n : ℕ) → bit_at n i ≡ 1 → ((j : ℕ) → j < i → bit_at n j ≡ 0)
    → (bit_at (n - 1) i ≡ 0) × ((j : ℕ) → i < j → bit_at (n - 1) j ≡ bit_at n j)
less_one zero n one none =
    let odd : n % 2 ≡ 1 = omega (arith, bit_at_lowest n, one) in (
      omega (arith, bit_at_lowest (n - 1), odd),
      λ j h. above j h (omega (arith, odd)),
    )
  where
    above : (j : ℕ) → 0 < j → (n - 1) / 2 ≡ n / 2 → bit_at (n - 1) j ≡ bit_at n j
    above zero h half = absurd (omega (arith, h))
    above (suc j) h half = bit_at-suc (n - 1) j ∙ ap (λ m. bit_at m j) half ∙ sym (bit_at-suc n j)
less_one (suc i) n one none =
    let even : n % 2 ≡ 0 = omega (arith, bit_at_lowest n, none 0 (omega arith)) in
    let here : bit_at (n / 2) i ≡ 1 = sym (bit_at-suc n i) ∙ one in
    let some : 0 < n / 2 =
    ⊎_elim (λ z. absurd (omega (arith, here, ap (λ m. bit_at m i) z, bit_at-zero i))) (λ s. omega (arith, s)) (cases_eq (n / 2) 0) in
    let half : (n - 1) / 2 ≡ n / 2 - 1 = omega (arith, even, some) in
    let next = less_one i (n / 2) here (λ j h. sym (bit_at-suc n j) ∙ none (suc j) (omega (arith, h))) in (
      bit_at-suc (n - 1) i ∙ ap (λ m. bit_at m i) half ∙ next.0,
      λ j h. above j h half next.1,
    )
  where
    above : (j : ℕ) → suc i < j → (n - 1) / 2 ≡ n / 2 - 1 → ((j : ℕ) → i < j → bit_at (n / 2 - 1) j ≡ bit_at (n / 2) j)
        → bit_at (n - 1) j ≡ bit_at n j
    above zero h half next = absurd (omega (arith, h))
    above (suc j) h half next = bit_at-suc (n - 1) j ∙ ap (λ m. bit_at m j) half ∙ next j (omega (arith, h)) ∙ sym (bit_at-suc n j)

-- The number without its lowest bit.

pub lowest_gone : (n i : ℕ) → IsLowest n i → bit_at (bit_and n (n - 1)) i ≡ 0
lowest_gone n i low = omega (arith, bit_at_and n (n - 1) i, (less_one i n low.is_set low.none_below).0)

pub others_stay : (n i j : ℕ) → IsLowest n i → j ≢ i → bit_at (bit_and n (n - 1)) j ≡ bit_at n j
others_stay n i j low ne =
    ⊎_elim
    (λ (below : j < i). omega (arith, bit_at_and n (n - 1) j, low.none_below j below))
    (λ (above : i ≤ j). omega (
      arith,
      bit_at_and n (n - 1) j,
      (less_one i n low.is_set low.none_below).1 j (omega (arith, above, ne)),
    ))
    (cases_lt j i)

pub one_less : (n : ℕ) → 0 < n → n < 2 ^ 64 → ones (bit_and n (n - 1)) + 1 ≡ ones n
one_less n some fits =
    let i : ℕ = trailing_zeros w64 n in
    let low : IsLowest n i = lowest_of n some fits in
    let m : ℕ = bit_and n (n - 1) in
    let one : ℕ = run i 1 in
    let mf : m < 2 ^ 64 = omega (arith, and_le_l n (n - 1), fits) in
    let onef : one < 2 ^ 64 = run-lt i 1 (omega (arith, low.inside)) in
    let here : bit_at one i ≡ 1 = bit_at_run_inside i 1 i (omega arith) (omega arith) in
    let else_clear : (j : ℕ) → j ≢ i → bit_at one j ≡ 0 =
    λ j ne. ⊎_elim (λ (b : j < i). bit_at_run_below i 1 j b) (λ (a : i ≤ j). bit_at_run_above i 1 j (omega (arith, a, ne))) (cases_lt j i) in
    let apart : bit_and m one ≡ 0 =
    same_from_bits_below 64 (bit_and m one) 0 (omega (arith, and_le_l m one, mf)) (omega arith)
    (λ j h. ⊎_elim
    (λ (e : j ≡ i). omega (
      arith,
      bit_at_and m one j,
      ap (bit_at m) e,
      lowest_gone n i low,
      bit_at-zero j,
    ))
    (λ ne. omega (arith, bit_at_and m one j, else_clear j ne, bit_at-zero j))
    (cases_eq j i)) in
    let joined : bit_or m one ≡ n =
    same_from_bits_below 64 (bit_or m one) n (or_lt 64 m one mf onef) fits
    (λ j h. ⊎_elim
    (λ (e : j ≡ i). omega (
      arith,
      bit_at_or m one j,
      ap (bit_at m) e,
      ap (bit_at one) e,
      ap (bit_at n) e,
      lowest_gone n i low,
      here,
      low.is_set,
    ))
    (λ ne. omega (arith, bit_at_or m one j, else_clear j ne, others_stay n i j low ne))
    (cases_eq j i)) in
    omega (arith, ones_disjoint m one mf onef apart, ones_run i 1, ap ones joined)

-- Bits of a word that are clear.

pub clear_bits : (seen mask : ℕ) → seen < 2 ^ 64 → ((i : ℕ) → bit_at mask i ≤ bit_at (bit_not w64 seen) i) → bit_and seen mask ≡ 0
clear_bits seen mask fits among =
    same_from_bits_below 64 (bit_and seen mask) 0 (omega (arith, and_le_l seen mask, fits)) (omega arith)
    (λ i h. omega (
      arith,
      bit_at_and seen mask i,
      bit_at_not w64 seen i fits h,
      among i,
      bit_at-lt seen i,
      bit_at-lt mask i,
      bit_at-zero i,
    ))

pub all_set : (seen : ℕ) → seen < 2 ^ 64 → bit_or seen (bit_not w64 seen) ≡ 2 ^ 64 - 1
all_set seen fits =
    let n : ℕ = bit_not w64 seen in
    let nf : n < 2 ^ 64 = omega arith in
    same_from_bits_below 64 (bit_or seen n) (2 ^ 64 - 1) (or_lt 64 seen n fits nf) (omega arith)
    (λ i h. omega (
      arith,
      bit_at_or seen n i,
      bit_at_not w64 seen i fits h,
      bit_at-lt seen i,
      bit_at_full i h,
    ))
