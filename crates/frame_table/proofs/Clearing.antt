-- A run of frames in flight is set in its word, so that taking its bits off the word clears just them.
use Rattle.std.proofs.Common.{◌≡◌, ℕ, ◌+◌, ◌-◌, ◌*◌, ◌/◌, ◌%◌, ◌^◌, ◌<◌, ◌≤◌, List, get_or, ap, arith}
use Rattle.std.specs.Int.{bit_at, bit_not, w64}
use Rattle.std.specs.Int.Bits.{bit_and, bit_or, or_add_and}
use Rattle.std.proofs.lemmas.Nat.{or_lt, and_le_l}
use Rattle.std.proofs.lemmas.Nat.Bits.{bit_at_and, bit_at_or, bit_at-lt, bit_at-zero, same_from_bits_below}
use mathlib.Core.Option.{some}
use lib.ListN.{get_elem?}
use Rattle.frame_model.specs.declared.key.Key.{Key}
use Rattle.frame_model.specs.declared.view.View.{View}
use Rattle.frame_model.specs.Words.{run, bits_place, bit_word_of}
use Rattle.frame_model.specs.View.{small_in}
use Rattle.frame_model.specs.Fit.{Fit}
use Rattle.frame_model.specs.Steps.{Rest, release, turned}
use Rattle.frame_model.specs.Steps.Amounts.{IsRun}
use Rattle.frame_model.specs.Steps.Conditions.{CanRelease}
use Rattle.frame_model.proofs.Bits.{bit_at_clear, run-lt}
use Rattle.frame_model.proofs.Blocks.{run_here}
use Rattle.frame_model.proofs.Steps.Shared.{bit_word_is, bit_is, at-le-total, smalls-le-bit}
use Rattle.frame_table.specs.Rule.{MayFind}

-- of a word that has all ones of another, those are cleared by a subtraction
module _ (n m : ℕ) (nf : n < 2 ^ 64) (mf : m < 2 ^ 64)
    (within : (i : ℕ) → i < 64 → bit_at m i ≤ bit_at n i) where
  abbrev left : ℕ
  left = bit_and n (bit_not w64 m)

  left-lt : left < 2 ^ 64
  left-lt = omega (arith, and_le_l n (bit_not w64 m))

  apart : bit_and left m ≡ 0
  apart =
      same_from_bits_below 64 (bit_and left m) 0 (omega (arith, and_le_l left m, left-lt)) (omega arith)
      (λ i h. omega (
        arith,
        bit_at_and left m i,
        bit_at_clear n m nf mf within i h,
        bit_at-zero i,
        bit_at-lt n i,
        bit_at-lt m i,
      ))

  joined : bit_or left m ≡ n
  joined =
      same_from_bits_below 64 (bit_or left m) n (or_lt 64 left m left-lt mf) nf
      (λ i h. omega (arith, bit_at_or left m i, bit_at_clear n m nf mf within i h, bit_at-lt n i, bit_at-lt m i))

  cleared : left ≡ (n + (2 ^ 64 - m)) % 2 ^ 64
  cleared = omega (arith, or_add_and left m, joined, apart, left-lt, mf)

module _ (key : Key) (shares : ℕ) (ws : List ℕ) (vs : List View) (id : ℕ) (v : View)
    (fit : Fit key shares ws vs) (at : get_elem? vs id ≡ some v) where
  run_is_set : (k from o : ℕ) (rest : Rest) → CanRelease key v k from o (rest v.own) → (j : ℕ) → j < 64
      → bit_at (run from (2 ^ o)) j ≤ bit_at (get_or ws (bits_place key k) 0) j
  run_is_set k from o rest can j h =
      let r : IsRun key k from o = can.is_run in
      let n : ℕ = bit_word_of key ws k in
      let m : ℕ = run from (2 ^ o) in
      let y : ℕ = 64 * k + j in
      let here : y / 64 ≡ k = omega arith in
      let bit : y % 64 ≡ j = omega arith in
      omega (
        arith,
        can.leaves.smalls y,
        run_here k from o y r.small here,
        at-le-total key shares ws vs id v fit at (small_in y),
        smalls-le-bit key shares ws vs id v fit at y (omega (arith, r.inside)),
        bit_is key ws y k here,
        ap (bit_at m) bit,
        ap (bit_at n) bit,
        ap (λ x. bit_at x j) (bit_word_is key ws k),
      )

-- a run in flight is given up by a subtraction
pub released_by_less : (key : Key) (v : View) (k from o mask old : ℕ) (rest : Rest)
    → CanRelease key v k from o (rest v.own) → mask ≡ run from (2 ^ o) → old < 2 ^ 64
    → MayFind key (release k from o rest) v old
    → turned (release k from o rest) old ≡ (old + (2 ^ 64 - mask)) % 2 ^ 64
released_by_less key v k from o mask old rest can is small (ws, (vs, (id, (fit, (at, found))))) =
    let m : ℕ = run from (2 ^ o) in
    let within : (j : ℕ) → j < 64 → bit_at m j ≤ bit_at old j =
    λ j h. omega (
      arith,
      run_is_set key key.cores ws vs id v fit at k from o rest can j h,
      ap (λ x. bit_at x j) found,
    ) in
    omega (arith, is, cleared old m small (run-lt from (2 ^ o) can.is_run.fits) within)
