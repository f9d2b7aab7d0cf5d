-- Where runs of clear bits begin, as the bits of a word.
use Rattle.std.proofs.Common.{◌≡◌, ◌≢◌, ◌↔◌, ⊎_elim, ℕ, ◌+◌, ◌-◌, ◌/◌, ◌%◌, ◌^◌, ◌<◌, ◌≤◌, ap, subst, arith}
use Rattle.std.specs.Int.{bit_at, bit_not, w64, trailing_zeros}
use Rattle.std.specs.Int.Bits.{bit_and}
use Rattle.std.proofs.lemmas.Bool.{cases_lt}
use Rattle.std.proofs.lemmas.Nat.{pow_pos, and_le_l}
use Rattle.std.proofs.lemmas.Nat.Bits.{bit_at_mask_above, bit_at_mask_below, bit_at_and, bit_at-lt, bit_at-zero, bit_at_not, bit_at_above, bit_at-trailing_zeros}
use Rattle.std.proofs.Math.Nat.{pow-suc}
use Rattle.std.proofs.Math.Numerals.{add-one}
use Rattle.frame_words.specs.Runs.{IsClearFrom, IsClearRun, IsLowestClearRun, HasNoClearRun}
use Rattle.frame_words.proofs.BitLemmas.{bit_at-shr, and-zero}

-- the bits of a number are the places from which on so many bits of the word are clear
abbrev pub Marks : ℕ → ℕ → ℕ → Type 0
Marks word count marks = (i : ℕ) → (bit_at marks i ≡ 1) ↔ IsClearFrom word count i

-- the clear bits themselves
pub marks_one : (word : ℕ) → word < 2 ^ 64 → Marks word 1 (bit_not w64 word)
marks_one word fits i = (
  λ set. ⊎_elim
      (λ (inside : i < 64). record {
        inside = omega arith;
        clear = λ j low high.
            let here : j ≡ i = omega arith in
            omega (arith, ap (bit_at word) here, bit_at_not w64 word i fits inside, bit_at-lt word i);
      })
      (λ (outside : 64 ≤ i). absurd (omega (arith, bit_at_above (bit_not w64 word) 64 i (omega arith) outside)))
      (cases_lt i 64),
  λ run. omega (arith, bit_at_not w64 word i fits (omega (arith, run.inside)), run.clear i (omega arith) (omega arith)),
)

-- a run of twice the length is two of them, one behind the other
twice : (word n i : ℕ) → IsClearFrom word n i → IsClearFrom word n (n + i) → IsClearFrom word (n + n) i
twice word n i low high = record {
  inside = omega (arith, high.inside);
  clear = λ j from below. ⊎_elim
      (λ (before : j < i + n). low.clear j from before)
      (λ (behind : i + n ≤ j). high.clear j (omega arith) (omega arith))
      (cases_lt j (i + n));
}

-- one doubling
marks_twice : (word n marks : ℕ) → Marks word n marks → Marks word (n + n) (bit_and marks (marks / 2 ^ n))
marks_twice word n marks are i = (
  λ set.
      let both = bit_at_and marks (marks / 2 ^ n) i in
      let moved = bit_at-shr marks n i in
      twice word n i
      ((are i).0 (omega (arith, both, moved, bit_at-lt marks i, bit_at-lt marks (n + i))))
      ((are (n + i)).0 (omega (arith, both, moved, bit_at-lt marks i, bit_at-lt marks (n + i)))),
  λ run.
      let low : IsClearFrom word n i = record { inside = omega (arith, run.inside); clear = λ j from below. run.clear j from (omega arith) } in
      let high : IsClearFrom word n (n + i) =
      record { inside = omega (arith, run.inside); clear = λ j from below. run.clear j (omega arith) (omega arith) }
      in
      omega (arith, (are i).1 low, (are (n + i)).1 high, bit_at_and marks (marks / 2 ^ n) i, bit_at-shr marks n i),
)

-- one doubling of a power of 2
pub marks_more : (word k marks : ℕ) → Marks word (2 ^ k) marks
    → Marks word (2 ^ (k + 1)) (bit_and marks (marks / 2 ^ (2 ^ k)))
marks_more word k marks are =
    let doubled : 2 ^ k + 2 ^ k ≡ 2 ^ (k + 1) = omega (arith, pow-suc 2 k, ap (λ j. 2 ^ j) (add-one k)) in
    subst (λ n. Marks word n (bit_and marks (marks / 2 ^ (2 ^ k)))) doubled (marks_twice word (2 ^ k) marks are)

-- the bits of a number are the multiples of 2 ^ order
abbrev pub Starts : ℕ → ℕ → Type 0
Starts order starts = (i : ℕ) → i < 64 → (bit_at starts i ≡ 1) ↔ (i % 2 ^ order ≡ 0)

-- an aligned clear run begins exactly where both numbers have a bit
pub run_at : (word order marks starts : ℕ) → Marks word (2 ^ order) marks → Starts order starts
    → (i : ℕ) → (bit_at (bit_and marks starts) i ≡ 1) ↔ IsClearRun word order i
run_at word order marks starts are begin i = (
  λ set.
      let both = bit_at_and marks starts i in
      let bits : IsClearFrom word (2 ^ order) i = (are i).0 (omega (arith, both, bit_at-lt marks i, bit_at-lt starts i)) in
      record {
        aligned = (begin i (omega (arith, bits.inside, pow_pos order))).0 (omega (arith, both, bit_at-lt marks i, bit_at-lt starts i));
        bits = bits;
      },
  λ run.
      let low : bit_at marks i ≡ 1 = (are i).1 run.bits in
      let high : bit_at starts i ≡ 1 = (begin i (omega (arith, run.bits.inside, pow_pos order))).1 run.aligned in
      omega (arith, bit_at_and marks starts i),
)

-- no bit, no run
pub run_none : (word order marks starts : ℕ) → Marks word (2 ^ order) marks → Starts order starts
    → bit_and marks starts ≡ 0 → HasNoClearRun word order
run_none word order marks starts are begin none i run =
    omega (arith, (run_at word order marks starts are begin i).1 run, ap (λ n. bit_at n i) none, bit_at-zero i)

-- the lowest bit, the lowest run
pub run_lowest : (word order marks starts : ℕ) → Marks word (2 ^ order) marks → Starts order starts
    → marks < 2 ^ 64 → bit_and marks starts ≢ 0
    → IsLowestClearRun word order (trailing_zeros w64 (bit_and marks starts))
run_lowest word order marks starts are begin fits some =
    let both : ℕ = bit_and marks starts in
    let lowest = bit_at-trailing_zeros w64 both (omega arith) (omega (arith, and_le_l marks starts)) in
    record {
      run = (run_at word order marks starts are begin (trailing_zeros w64 both)).0 lowest.1;
      lowest = λ other below run.
          omega (arith, (run_at word order marks starts are begin other).1 run, lowest.2 other below);
    }

-- a clear run shares no bit with its word
pub run_apart : (word order bit : ℕ) → word < 2 ^ 64 → IsClearRun word order bit
    → bit_and word (2 ^ (bit + 2 ^ order) - 2 ^ bit) ≡ 0
run_apart word order bit fits run =
    and-zero word (2 ^ (bit + 2 ^ order) - 2 ^ bit) fits
    (λ i inside set. ⊎_elim
    (λ (below : i < bit). absurd (omega (arith, bit_at_mask_below bit (bit + 2 ^ order) i below)))
    (λ (from : bit ≤ i). ⊎_elim
    (λ (before : i < bit + 2 ^ order). run.bits.clear i from before)
    (λ (above : bit + 2 ^ order ≤ i). absurd (omega (arith, bit_at_mask_above bit (bit + 2 ^ order) i above)))
    (cases_lt i (bit + 2 ^ order)))
    (cases_lt i bit))
