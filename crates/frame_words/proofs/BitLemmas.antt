-- Bits of a word one by one, and how many of them are set.
use Rattle.std.proofs.Common.{◌≡◌, ⊎_elim, ℕ, zero, suc, ◌+◌, ◌-◌, ◌*◌, ◌/◌, ◌%◌, ◌^◌, ◌<◌, ◌≤◌, min, max, refl, ap, arith}
use Rattle.std.specs.Int.{bit_at, bit_not, w64}
use Rattle.std.specs.Int.Count.{ones, ones_step, ones_cat, ones-ones}
use Rattle.std.specs.Int.Bits.{bit_and, bit_or, or_step, and_step}
use Rattle.std.proofs.Math.Nat.{pow-suc}
use Rattle.std.proofs.Math.Pow.{pow_mono}
use Rattle.std.proofs.lemmas.Bool.{cases_lt}
use Rattle.std.proofs.lemmas.Nat.{pow_pos, and_le_l, shr-shr}
use Rattle.std.proofs.lemmas.Nat.Bits.{bit_at_and, bit_at-lt, bit_at-zero, same_from_bits_below}
use lib.Pow.{high_ones}

-- a bit of a word that was moved down
pub bit_at-shr : (n m i : ℕ) → bit_at (n / 2 ^ m) i ≡ bit_at n (m + i)
bit_at-shr n m i = ap (λ q. q % 2) (shr-shr n m i)

-- the ones of two words, and of what they share
pub ones_or_and : (k a b : ℕ) → a < 2 ^ k → b < 2 ^ k
    → ones (bit_or a b) + ones (bit_and a b) ≡ ones a + ones b
ones_or_and zero a b fits small =
    let none : a ≡ 0 = omega arith in
    let nought : b ≡ 0 = omega arith in
    rw (none, nought)
ones_or_and (suc k) a b fits small =
    let or_rest : bit_or a b / 2 ≡ bit_or (a / 2) (b / 2) = omega (arith, or_step a b) in
    let or_bit : bit_or a b % 2 ≡ max (a % 2) (b % 2) = omega (arith, or_step a b) in
    let and_rest : bit_and a b / 2 ≡ bit_and (a / 2) (b / 2) = omega (arith, and_step a b) in
    let and_bit : bit_and a b % 2 ≡ min (a % 2) (b % 2) = omega (arith, and_step a b) in
    let rest = ones_or_and k (a / 2) (b / 2) (omega (arith, pow-suc 2 k)) (omega (arith, pow-suc 2 k)) in
    omega (arith, rest, ones_step (bit_or a b), ones_step (bit_and a b), ones_step a, ones_step b, ap ones or_rest, ap ones and_rest)

-- no bit is set in 0
pub ones-zero : ones 0 ≡ 0
unfolding ones
ones-zero = refl

-- the ones of two words that share none
pub ones-or_apart : (a b : ℕ) → a < 2 ^ 64 → b < 2 ^ 64 → bit_and a b ≡ 0
    → ones (bit_or a b) ≡ ones a + ones b
ones-or_apart a b fits small apart = omega (arith, ones_or_and 64 a b fits small, ap ones apart, ones-zero)

-- a run of n ones
pub ones-mask : (from n : ℕ) → ones (2 ^ (from + n) - 2 ^ from) ≡ n
ones-mask from n =
    let turned : from + n ≡ n + from = omega arith in
    let shifted : 2 ^ (from + n) - 2 ^ from ≡ (2 ^ n - 1) * 2 ^ from + 0 =
    omega (arith, ap (λ j. 2 ^ j) turned, high_ones n from)
    in
    omega (arith, ap ones shifted, ones_cat from (2 ^ n - 1) 0 (pow_pos from), ones-ones n, ones-zero)

-- a run inside a word
pub mask-lt : (from n : ℕ) → from + n ≤ 64 → 2 ^ (from + n) - 2 ^ from < 2 ^ 64
mask-lt from n inside = omega (arith, pow_mono {i = from + n} {j = 64} inside, pow_pos from)

-- two words that share no bit
pub and-zero : (a b : ℕ) → a < 2 ^ 64 → ((i : ℕ) → i < 64 → bit_at b i ≡ 1 → bit_at a i ≡ 0)
    → bit_and a b ≡ 0
and-zero a b fits apart =
    same_from_bits_below 64 (bit_and a b) 0 (omega (arith, and_le_l a b)) (omega arith)
    (λ i inside. ⊎_elim
    (λ (unset : bit_at b i < 1). omega (arith, bit_at_and a b i, bit_at-zero i))
    (λ (set : 1 ≤ bit_at b i). omega (arith, apart i inside (omega (arith, bit_at-lt b i)), bit_at_and a b i, bit_at-zero i))
    (cases_lt (bit_at b i) 1))

-- what is left of a word is a word
pub clear-lt : (whole part : ℕ) → whole < 2 ^ 64 → bit_and whole (bit_not w64 part) < 2 ^ 64
clear-lt whole part fits = omega (arith, and_le_l whole (bit_not w64 part))

-- a run at a multiple of its length ends inside the word
pub aligned_inside : (order bit : ℕ) → order ≤ 6 → bit % 2 ^ order ≡ 0 → bit < 64 → bit + 2 ^ order ≤ 64
aligned_inside zero bit few aligned inside = omega arith
aligned_inside (suc zero) bit few aligned inside = omega arith
aligned_inside (suc (suc zero)) bit few aligned inside = omega arith
aligned_inside (suc (suc (suc zero))) bit few aligned inside = omega arith
aligned_inside (suc (suc (suc (suc zero)))) bit few aligned inside = omega arith
aligned_inside (suc (suc (suc (suc (suc zero))))) bit few aligned inside = omega arith
aligned_inside (suc (suc (suc (suc (suc (suc zero)))))) bit few aligned inside = omega arith
aligned_inside (suc (suc (suc (suc (suc (suc (suc order))))))) bit few aligned inside = absurd (omega arith)
