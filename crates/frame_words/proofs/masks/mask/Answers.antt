-- The ones that are left of all ones, moved up to their place, are the powers of the clauses.
use Rattle.std.proofs.Common.{◌≡◌, ◌↔◌, ⊎_elim, ℕ, ◌+◌, ◌-◌, ◌*◌, ◌/◌, ◌%◌, ◌^◌, ◌<◌, ◌≤◌, ap, sym, ◌∙◌, subst, arith}
use Rattle.std.specs.Int.{bit_at}
use Rattle.std.proofs.Math.Pow.{pow_mono}
use Rattle.std.proofs.lemmas.Bool.{cases_lt}
use Rattle.std.proofs.lemmas.Nat.{one_shl, pow_pos, shl_whole}
use Rattle.std.proofs.lemmas.Nat.Bits.{ones_shr, bit_at_mask_inside, bit_at_mask_below, bit_at_mask_above}
use lib.Pow.{high_ones}
use Rattle.frame_words.proofs.BitLemmas.{aligned_inside}
use Rattle.frame_words.proofs.masks.mask.Goals as goal

length : (order : ℕ) → order ≤ 6 → 1 * 2 ^ order % 2 ^ 32 ≡ 2 ^ order
length order few = one_shl order 32 (omega arith)

most : (order : ℕ) → order ≤ 6 → 2 ^ order ≤ 64
most order few = omega (arith, pow_mono {i = order} {j = 6} few)

-- n ones, moved up
placed : (n bit : ℕ) → n + bit ≤ 64
    → (2 ^ 64 - 1) / 2 ^ (64 - n) * 2 ^ bit % 2 ^ 64 ≡ 2 ^ (bit + n) - 2 ^ bit
placed n bit inside =
    let whole : 64 - (64 - n) ≡ n = omega arith in
    let turned : bit + n ≡ n + bit = omega arith in
    let low : (2 ^ 64 - 1) / 2 ^ (64 - n) ≡ 2 ^ n - 1 = ones_shr 64 (64 - n) (omega arith) ∙ ap (λ k. 2 ^ k - 1) whole in
    ap (λ k. k * 2 ^ bit % 2 ^ 64) low
    ∙ shl_whole (2 ^ n - 1) n bit 64 (omega (arith, pow_pos n)) inside
    ∙ omega (arith, high_ones n bit, ap (λ j. 2 ^ j) turned)

value : (order bit : ℕ) → order ≤ 6 → bit % 2 ^ order ≡ 0 → bit < 64
    → (2 ^ 64 - 1) / 2 ^ (64 - 1 * 2 ^ order % 2 ^ 32) * 2 ^ bit % 2 ^ 64 ≡ 2 ^ (bit + 2 ^ order) - 2 ^ bit
value order bit few aligned inside =
    ap (λ n. (2 ^ 64 - 1) / 2 ^ (64 - n) * 2 ^ bit % 2 ^ 64) (length order few)
    ∙ placed (2 ^ order) bit (omega (arith, aligned_inside order bit few aligned inside))

-- which bits the powers set
bits : (bit n i : ℕ) → (bit_at (2 ^ (bit + n) - 2 ^ bit) i ≡ 1) ↔ ((bit ≤ i) × (i < bit + n))
bits bit n i = (
  λ set. ⊎_elim
      (λ (below : i < bit). absurd (omega (arith, bit_at_mask_below bit (bit + n) i below)))
      (λ (from : bit ≤ i). ⊎_elim
      (λ (before : i < bit + n). (from, before))
      (λ (above : bit + n ≤ i). absurd (omega (arith, bit_at_mask_above bit (bit + n) i above)))
      (cases_lt i (bit + n)))
      (cases_lt i bit),
  λ (from, before). bit_at_mask_inside bit (bit + n) i from before,
)

pub overflow_sub-result : goal.overflow_sub-result
overflow_sub-result c = omega (arith, length c.args.order c.requires.order, most c.args.order c.requires.order)

pub returns-clause-value : goal.returns-clause-value
returns-clause-value c = value c.args.order c.args.bit c.requires.order c.requires.aligned c.requires.inside

pub returns-clause-bits : goal.returns-clause-bits
returns-clause-bits c =
    subst (λ m. (i : ℕ) → (bit_at m i ≡ 1) ↔ ((c.args.bit ≤ i) × (i < c.args.bit + 2 ^ c.args.order)))
    (sym (value c.args.order c.args.bit c.requires.order c.requires.aligned c.requires.inside))
    (bits c.args.bit (2 ^ c.args.order))
