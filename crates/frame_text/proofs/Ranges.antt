-- Facts about all numbers of a range.
use Rattle.std.proofs.Common.{◌≡◌, ◌≢◌, ◌^◌, ⊎_elim, ℕ, zero, suc, ◌+◌, ◌-◌, ◌/◌, ◌%◌, ◌<◌, ◌≤◌}
use Rattle.std.proofs.Common.{List, Bool, true, false, refl, sym, arith, below_more, ◌∙◌}
use Rattle.std.specs.Prelude.{slice_index, bit_and}
use Rattle.std.specs.Int.{bit_at}
use Rattle.std.specs.List.{list_all, range_with_len}
use Rattle.std.proofs.lemmas.Bool.{cases_eq}
use Rattle.std.proofs.lemmas.Bool.Decides.{nat_tests}
use Rattle.std.proofs.lemmas.Nat.Bits.{shr_and_one, bit_at-lt}
use Rattle.frame_text.specs.ImageText.{all_set_from}

-- what passes everywhere passes in all
pub all_true : (p : ℕ → Bool) (a n : ℕ) → ((d : ℕ) → a ≤ d → d < a + n → p d ≡ true)
    → list_all p (range_with_len a n) ≡ true
all_true p a zero all = refl
all_true p a (suc n) all =
    rw (all a (omega arith) (omega arith), all_true p (a + 1) n (λ d l h. all d (omega arith) (omega arith))) refl

-- what fails somewhere does not pass in all
pub all_false : (p : ℕ → Bool) (a n d : ℕ) → a ≤ d → d < a + n → p d ≡ false
    → list_all p (range_with_len a n) ≡ false
all_false p a zero d l h e = absurd (omega arith)
all_false p a (suc n) d l h e =
    ⊎_elim (λ (same : d ≡ a). let here = rw same at e in rw here refl)
    (λ ne. by_first (p a) refl (all_false p (a + 1) n d (omega arith) (omega arith) e))
    (cases_eq d a)
  where
    by_first : (b : Bool) → p a ≡ b → list_all p (range_with_len (a + 1) n) ≡ false
        → list_all p (range_with_len a (suc n)) ≡ false
    by_first true t others = rw (t, others) refl
    by_first false t others = rw t refl

-- all frames from one on are set
pub set_from : (first : ℕ) (bits : List ℕ) → first ≤ 512
    → ((d : ℕ) → first ≤ d → d < 512 → bit_at (slice_index bits (d / 64)) (d % 64) ≡ 1)
    → all_set_from first bits ≡ true
unfolding all_set_from
set_from first bits few all =
    all_true _ first (512 - first) (λ d l h. let e = all d l (omega arith) in grind (arith, nat_tests))

-- a frame among them is clear
pub clear_from : (first d : ℕ) (bits : List ℕ) → first ≤ d → d < 512
    → bit_at (slice_index bits (d / 64)) (d % 64) ≡ 0 → all_set_from first bits ≡ false
unfolding all_set_from
clear_from first d bits l h e =
    all_false _ first (512 - first) d l (omega arith) (grind (arith, nat_tests))

-- a bit that the shifted word shows
pub shifted_clear : (d : ℕ) (bits : List ℕ) → bit_and (slice_index bits (d / 64) / 2 ^ (d % 64)) 1 ≡ 0
    → bit_at (slice_index bits (d / 64)) (d % 64) ≡ 0
shifted_clear d bits e = sym (shr_and_one (slice_index bits (d / 64)) (d % 64)) ∙ e

-- one frame more is set
pub set_so_far : (first frame : ℕ) (bits : List ℕ)
    → ((d : ℕ) → first ≤ d → d < frame → bit_at (slice_index bits (d / 64)) (d % 64) ≡ 1)
    → bit_and (slice_index bits (frame / 64) / 2 ^ (frame % 64)) 1 ≢ 0
    → (d : ℕ) → first ≤ d → d < frame + 1 → bit_at (slice_index bits (d / 64)) (d % 64) ≡ 1
set_so_far first frame bits before ne d l h =
    let here = shr_and_one (slice_index bits (frame / 64)) (frame % 64) in
    let one : bit_at (slice_index bits (frame / 64)) (frame % 64) ≡ 1 =
    omega (arith, here, ne, bit_at-lt (slice_index bits (frame / 64)) (frame % 64)) in
    below_more (λ k. first ≤ k → bit_at (slice_index bits (k / 64)) (k % 64) ≡ 1) frame (λ k h l. before k l h) (λ _. one) d h l
