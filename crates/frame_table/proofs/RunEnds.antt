-- Where a run of ones begins, and its order, told from its word.
use Rattle.std.proofs.Common.{◌≡◌, ℕ, ◌+◌, ◌^◌, ◌<◌, ◌≤◌, ap, ◌∙◌, arith, lt_of_not-le}
use Rattle.std.specs.Int.{bit_at, trailing_zeros, Width, w32, w64}
use mir.Val.{bits}
use Rattle.std.specs.Int.Count.{ones}
use Rattle.std.proofs.lemmas.Nat.{pow_pos}
use Rattle.std.proofs.lemmas.Nat.Bits.{bit_at-zero, bit_at-trailing_zeros, bit_at-pow_same, bit_at-pow_other, bit_at_mask_inside}
use Rattle.std.proofs.lemmas.Nat.Bits.{bit_at_mask_below}
use mathlib.Core.Logic.{dite}
use native.Mathlib.Decide.{dec_le}
use Rattle.frame_model.specs.Words.{run}
use Rattle.frame_model.proofs.Bits.{ones_run, ones-le}

-- the lowest one of a number
lowest_one : (w : Width) (n k : ℕ) → n < 2 ^ bits w → bit_at n k ≡ 1 → ((i : ℕ) → i < k → bit_at n i ≡ 0) → trailing_zeros w n ≡ k
lowest_one w n k fits one below =
    let some : 0 < n = dite (dec_le 1 n) (λ h. h) (λ h. let z : n ≡ 0 = omega (arith, lt_of_not-le h) in let b : bit_at n k ≡ 0 = ap
    (λ m. bit_at m k) z ∙ bit_at-zero k in absurd (omega (arith, one, b))) in
    let t = bit_at-trailing_zeros w n some fits in
    let low : k ≤ trailing_zeros w n = dite (dec_le k (trailing_zeros w n)) (λ h. h)
    (λ h. absurd (omega (arith, t.1, below (trailing_zeros w n) (lt_of_not-le h)))) in
    let high : trailing_zeros w n ≤ k = dite (dec_le (trailing_zeros w n) k) (λ h. h)
    (λ h. absurd (omega (arith, one, t.2 k (lt_of_not-le h)))) in
    omega (arith, low, high)

pub run_ends : (mask from order : ℕ) → mask < 2 ^ 64 → mask ≡ run from (2 ^ order)
    → (trailing_zeros w64 mask ≡ from) × (trailing_zeros w32 (ones mask) ≡ order)
run_ends mask from order fits is =
    let size : 0 < 2 ^ order = pow_pos order in
    let count : ones mask ≡ 2 ^ order = ap ones is ∙ ones_run from (2 ^ order) in
    let few : ones mask < 2 ^ 32 = omega (arith, ones-le 64 mask fits) in
    let inside : bit_at mask from ≡ 1 = ap (λ m. bit_at m from) is
    ∙ bit_at_mask_inside from (from + 2 ^ order) from (omega arith) (omega (arith, size)) in (
      lowest_one w64 mask from fits inside (λ i h. ap (λ m. bit_at m i) is ∙ bit_at_mask_below from (from + 2 ^ order) i h),
      lowest_one w32 (ones mask) order few (ap (λ m. bit_at m order) count ∙ bit_at-pow_same order)
          (λ i h. ap (λ m. bit_at m i) count ∙ bit_at-pow_other order i (λ e. absurd (omega (arith, e, h)))),
    )
