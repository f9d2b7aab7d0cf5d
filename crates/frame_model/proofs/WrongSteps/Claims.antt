-- A claim of frames that are not charged.
use Rattle.std.proofs.Common.{◌≡◌, ⊎_elim, ℕ, ◌+◌, ◌*◌, ◌/◌, ◌%◌, ◌^◌, ◌<◌, List, [], ◌∷◌, ◌++◌, set, refl, ap, sym, subst, ◌∙◌, arith}
use Rattle.std.specs.Int.{bit_at, w64, trailing_zeros}
use Rattle.std.specs.Int.Count.{ones}
use Rattle.std.specs.Int.Bits.{bit_and, bit_or}
use Rattle.std.proofs.lemmas.Bool.{cases_eq}
use Rattle.std.proofs.lemmas.Nat.{pow_pos}
use Rattle.std.proofs.lemmas.Nat.Bits.{bit_at_and, bit_at-zero, bit_at-trailing_zeros}
use Rattle.frame_model.specs.declared.block.FrameBlock.{FrameBlock}
use Rattle.frame_model.specs.declared.key.Key.{Key}
use Rattle.frame_model.specs.declared.view.View.{View}
use Rattle.frame_model.specs.Key.{frame_count, child_of}
use Rattle.frame_model.specs.Block.{block, smalls, single_blocks}
use Rattle.frame_model.specs.Words.{run, bits_place, bit_word_of, set_of, huge_of, with_bits}
use Rattle.frame_model.specs.View.{small_in, marks, charged_in}
use Rattle.frame_model.specs.Fit.{Fit}
use Rattle.frame_model.specs.Steps.{effect, next}
use Rattle.frame_model.specs.Steps.Amounts.{IsRun}
use Rattle.frame_model.specs.WrongSteps.{DoNotFit, IsBefore, claim_now, IsClearNow, BitsBeforeTheCharge, ClaimsUncharged}
use Rattle.frame_model.specs.WrongSteps.{claim_singles_now, ClaimsSinglesUncharged, ClaimsAHeldFrame}
use Rattle.frame_model.proofs.Amounts.{less_here}
use Rattle.frame_model.proofs.Bits.{ones_zero, ones_disjoint, ones_run, run-lt, bit_at_run_inside}
use Rattle.frame_model.proofs.Blocks.{smalls_both, AreAt, run_at}
use Rattle.frame_model.proofs.Chosen.{singles_at}
use Rattle.frame_model.proofs.Words.{held_is, BitsWritten, bits_written}
use Rattle.frame_model.proofs.Steps.Shared.{bit-le, bit_is, as_bits}
use Rattle.frame_model.proofs.WrongSteps.Shared.{total_set}

-- clear bits of a word are set, the view owns blocks that hold just their frames, and its charge falls by less
set_uncharged : (key : Key) (ws : List ℕ) (vs : List View) (id : ℕ) (v : View) → IsBefore key ws vs id v
    → (k m n j : ℕ) (bs : List FrameBlock) → k < 8 * key.children → AreAt key k m bs → m < 2 ^ 64 → ones m ≡ n
    → j < 64 → bit_at m j ≡ 1 → bit_and (bit_word_of key ws k) m ≡ 0
    → (w : View) → w.own ≡ bs ++ v.own → w.kept ≡ v.kept → charged_in (k / 8) v < charged_in (k / 8) w + n
    → DoNotFit key (set ws (bits_place key k) (bit_or (bit_word_of key ws k) m)) (set vs id w)
set_uncharged key ws vs id v before k m size j bs in_words are mf count room bit clear w own kept few shares made =
    let fit : Fit key before.shares ws vs = before.fits in
    let n : ℕ = bit_word_of key ws k in
    let words : with_bits key ws k (bit_or n m) ≡ set ws (bits_place key k) (bit_or n m) =
    as_bits key ws k (bit_or n m) (bit_or n m) refl in
    let new : List ℕ = with_bits key ws k (bit_or n m) in
    let after : Fit key shares new (set vs id w) = subst (λ (l : List ℕ). Fit key shares l (set vs id w)) (sym words) made in
    let z : BitsWritten key ws k (bit_or n m) new = bits_written key ws k (bit_or n m) fit.words_in_range in_words in
    let child : k / 8 < key.children = omega (arith, in_words) in
    let added : ones (bit_or n m) ≡ ones n + size =
    omega (arith, ones_disjoint n m (fit.words_in_range.bits k in_words) mf clear, count) in
    let sets : set_of key new (k / 8) ≡ set_of key ws (k / 8) + size = omega (arith, z.sets_here, added) in
    let first : ℕ = 64 * k + j in
    let here : first / 64 ≡ k = omega arith in
    let there : child_of first ≡ k / 8 = omega arith in
    let inside : first < frame_count key = omega (arith, in_words) in
    let low : first % 64 ≡ j = omega arith in
    let held : smalls first bs ≡ 1 = are.here first here ∙ ap (bit_at m) low ∙ bit in
    let same : small_in first v + 1 ≡ small_in first w =
    omega (arith, ap (smalls first) own, ap (smalls first) kept, smalls_both first bs v.own, held) in
    ⊎_elim
    (λ none. omega (
      arith,
      fit.entries_add_up (k / 8) child,
      after.entries_add_up (k / 8) child,
      z.free (k / 8) child,
      z.huge (k / 8) child,
      none,
      sets,
      held_is key ws (k / 8),
      held_is key new (k / 8),
      total_set key vs id v w before.seat (charged_in (k / 8)),
      few,
    ))
    (λ some_huge. omega (
      arith,
      after.apart first inside,
      z.huge (k / 8) child,
      ap (huge_of new) there,
      some_huge,
      same,
      total_set key vs id v w before.seat (small_in first),
    ))
    (cases_eq (huge_of ws (k / 8)) 0)

run_uncharged : (key : Key) (ws : List ℕ) (vs : List View) (id : ℕ) (v : View) → IsBefore key ws vs id v
    → (k from o : ℕ) → IsRun key k from o → IsClearNow key ws k from o
    → (w : View) → w.own ≡ block (64 * k + from) o ∷ v.own → w.kept ≡ v.kept → charged_in (k / 8) v < charged_in (k / 8) w + 2 ^ o
    → DoNotFit key (set ws (bits_place key k) (bit_or (bit_word_of key ws k) (run from (2 ^ o)))) (set vs id w)
run_uncharged key ws vs id v before k from o r =
    set_uncharged key ws vs id v before k (run from (2 ^ o)) (2 ^ o) from (block (64 * k + from) o ∷ []) r.inside (run_at key k from o r)
    (run-lt from (2 ^ o) r.fits) (ones_run from (2 ^ o)) (omega (arith, r.fits, pow_pos o))
    (bit_at_run_inside from (2 ^ o) from (omega arith) (omega (arith, pow_pos o)))

pub bits_before_the_charge : BitsBeforeTheCharge
bits_before_the_charge key ws vs id v before k from o (r, clear) =
    let w : View = record (effect next (claim_now key ws k from o) 0 v) { charged = v.charged } in
    run_uncharged key ws vs id v before k from o r clear w refl refl (omega (arith, pow_pos o))

pub claims_uncharged : ClaimsUncharged
claims_uncharged key ws vs id v before k from o (r, clear, few) =
    let w : View = effect next (claim_now key ws k from o) 0 v in (
      λ can. omega (arith, can.charged, few),
      run_uncharged key ws vs id v before k from o r clear w refl refl (omega (arith, pow_pos o, few, less_here (k / 8) (2 ^ o) v.charged)),
    )

pub claims_singles_uncharged : ClaimsSinglesUncharged
claims_singles_uncharged key ws vs id v before k m (inside, mf, clear, few) =
    let w : View = effect next (claim_singles_now key ws k m) 0 v in
    let some : 0 < m = ⊎_elim (λ z. absurd (omega (arith, few, ap ones z, ones_zero))) (λ s. omega (arith, s)) (cases_eq m 0) in
    let lowest = bit_at-trailing_zeros w64 m some mf in (
      λ can. omega (arith, can.charged, few),
      set_uncharged key ws vs id v before k m (ones m) (trailing_zeros w64 m) (single_blocks k m) inside (singles_at key k m inside) mf refl
          lowest.0 lowest.1 clear w refl refl (omega (arith, few, less_here (k / 8) (ones m) v.charged)),
    )

-- a frame that is set already would be marked twice
pub claims_a_held_frame : ClaimsAHeldFrame
claims_a_held_frame key ws vs id v before k m bit (inside, low, has, is_set) =
    let fit : Fit key before.shares ws vs = before.fits in
    let w : View = effect next (claim_singles_now key ws k m) 0 v in
    let x : ℕ = 64 * k + bit in
    let here : x / 64 ≡ k = omega arith in
    let same : x % 64 ≡ bit = omega arith in
    let n : ℕ = bit_word_of key ws k in
    let held : smalls x (single_blocks k m) ≡ 1 = (singles_at key k m inside).here x here ∙ ap (bit_at m) same ∙ has in (
      λ can. omega (arith, bit_at_and n m bit, ap (λ a. bit_at a bit) can.clear, bit_at-zero bit, has, is_set),
      λ shares made. omega (
        arith,
        fit.bits x (omega (arith, inside)),
        bit_is key ws x k here,
        ap (bit_at n) same,
        is_set,
        made.bits x (omega (arith, inside)),
        bit-le key (set ws (bits_place key k) (bit_or n m)) x,
        smalls_both x (single_blocks k m) v.own,
        held,
        total_set key vs id v w before.seat (marks x),
      ),
    )
