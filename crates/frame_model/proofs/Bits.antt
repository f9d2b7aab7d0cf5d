-- An aligned run of ones, set in a word that has none of them, and cleared again.
use Rattle.std.proofs.Common.{◌≡◌, ⊎_elim, ℕ, zero, suc, ◌+◌, ◌-◌, ◌*◌, ◌/◌, ◌%◌, ◌^◌, ◌<◌, ◌≤◌, min, max, refl, ap, ◌∙◌, arith}
use Rattle.std.specs.Int.{bit_at, bit_not, w64}
use Rattle.std.specs.Int.Count.{ones, ones_step, ones_cat, ones-ones}
use Rattle.std.specs.Int.Bits.{bit_and, bit_or, or_step, and_step}
use Rattle.std.proofs.Math.Nat.{pow-suc}
use Rattle.std.proofs.lemmas.Nat.{pow_pos, and_le_l, or_lt, zero_from_ones}
use Rattle.std.proofs.lemmas.Bool.{cases_eq}
use Rattle.std.proofs.lemmas.Nat.Bits.{bit_at_and, bit_at_or, bit_at-lt, bit_at-zero, bit_at_not, bit_at_mask_inside, bit_at_mask_below}
use Rattle.std.proofs.lemmas.Nat.Bits.{bit_at_mask_above, same_from_bits_below}
use lib.Pow.{high_ones, pow_mono}
use Rattle.frame_model.specs.Words.{run}

-- the ones of two words and those of what they share
pub ones_or_and : (k a b : ℕ) → a < 2 ^ k → b < 2 ^ k
    → ones (bit_or a b) + ones (bit_and a b) ≡ ones a + ones b
ones_or_and zero a b h l = let x : a ≡ 0 = omega arith in let y : b ≡ 0 = omega arith in rw (x, y)
ones_or_and (suc k) a b h l =
    let oh : bit_or a b / 2 ≡ bit_or (a / 2) (b / 2) = omega (arith, or_step a b) in
    let ol : bit_or a b % 2 ≡ max (a % 2) (b % 2) = omega (arith, or_step a b) in
    let ah : bit_and a b / 2 ≡ bit_and (a / 2) (b / 2) = omega (arith, and_step a b) in
    let al : bit_and a b % 2 ≡ min (a % 2) (b % 2) = omega (arith, and_step a b) in
    let ih = ones_or_and k (a / 2) (b / 2) (omega (arith, pow-suc 2 k)) (omega (arith, pow-suc 2 k)) in
    omega (arith, ones_step (bit_or a b), ones_step (bit_and a b), ones_step a, ones_step b, ap ones oh, ap ones ah)

pub ones_zero : ones 0 ≡ 0
unfolding ones
ones_zero = refl

pub ones_disjoint : (a b : ℕ) → a < 2 ^ 64 → b < 2 ^ 64 → bit_and a b ≡ 0
    → ones (bit_or a b) ≡ ones a + ones b
ones_disjoint a b h l e = let z : ones (bit_and a b) ≡ 0 = ap ones e ∙ ones_zero in omega (arith, ones_or_and 64 a b h l)

-- a run has as many ones as it is long
pub ones_run : (from n : ℕ) → ones (run from n) ≡ n
ones_run from n =
    let e : from + n ≡ n + from = omega arith in
    let s : run from n ≡ (2 ^ n - 1) * 2 ^ from + 0 = omega (arith, ap (λ j. 2 ^ j) e, high_ones n from) in
    omega (arith, ap ones s, ones_cat from (2 ^ n - 1) 0 (pow_pos from), ones-ones n, ones_zero)

pub run-lt : (from n : ℕ) → from + n ≤ 64 → run from n < 2 ^ 64
run-lt from n h = omega (arith, pow_mono {i = from + n} {j = 64} h, pow_pos from)

pub bit_at_run_inside : (from n i : ℕ) → from ≤ i → i < from + n → bit_at (run from n) i ≡ 1
bit_at_run_inside from n i l h = bit_at_mask_inside from (from + n) i l h

pub bit_at_run_below : (from n i : ℕ) → i < from → bit_at (run from n) i ≡ 0
bit_at_run_below from n i h = bit_at_mask_below from (from + n) i h

pub bit_at_run_above : (from n i : ℕ) → from + n ≤ i → bit_at (run from n) i ≡ 0
bit_at_run_above from n i h = bit_at_mask_above from (from + n) i h

module _ (n m : ℕ) (nf : n < 2 ^ 64) (mf : m < 2 ^ 64)
    (within : (i : ℕ) → i < 64 → bit_at m i ≤ bit_at n i) where
  pub bit_at_clear : (i : ℕ) → i < 64 → bit_at (bit_and n (bit_not w64 m)) i + bit_at m i ≡ bit_at n i
  bit_at_clear i h = omega (
    arith,
    bit_at_and n (bit_not w64 m) i,
    bit_at_not w64 m i mf h,
    within i h,
    bit_at-lt n i,
    bit_at-lt m i,
  )

  clear-lt : bit_and n (bit_not w64 m) < 2 ^ 64
  clear-lt = omega (arith, and_le_l n (bit_not w64 m))

  apart : bit_and (bit_and n (bit_not w64 m)) m ≡ 0
  apart =
      let r : ℕ = bit_and n (bit_not w64 m) in
      same_from_bits_below 64 (bit_and r m) 0 (omega (arith, and_le_l r m, clear-lt)) (omega arith)
      (λ i h. omega (arith, bit_at_and r m i, bit_at_clear i h, bit_at-zero i, bit_at-lt n i, bit_at-lt m i))

  joined : bit_or (bit_and n (bit_not w64 m)) m ≡ n
  joined =
      let r : ℕ = bit_and n (bit_not w64 m) in
      same_from_bits_below 64 (bit_or r m) n (or_lt 64 r m clear-lt mf) nf
      (λ i h. omega (arith, bit_at_or r m i, bit_at_clear i h, bit_at-lt n i, bit_at-lt m i))

  pub ones_clear : ones (bit_and n (bit_not w64 m)) + ones m ≡ ones n
  ones_clear = omega (arith, ones_disjoint (bit_and n (bit_not w64 m)) m clear-lt mf apart, ap ones joined)

-- a word has no more ones than bits
pub ones-le : (k n : ℕ) → n < 2 ^ k → ones n ≤ k
ones-le zero n h = let z : n ≡ 0 = omega arith in omega (arith, ap ones z, ones_zero)
ones-le (suc k) n h = omega (arith, ones_step n, ones-le k (n / 2) (omega (arith, pow-suc 2 k)))

pub some_ones : (n : ℕ) → 0 < n → 0 < ones n
some_ones n h = ⊎_elim (λ z. absurd (omega (arith, h, zero_from_ones n z))) (λ some. omega (arith, some)) (cases_eq (ones n) 0)
