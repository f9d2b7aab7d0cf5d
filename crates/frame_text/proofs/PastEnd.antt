-- What lies past the end: set in every bit word, and no huge frame.
use Rattle.std.proofs.Common.{◌≡◌, ◌≢◌, ◌∙◌, ⊎_elim, ℕ, ◌+◌, ◌*◌, ◌/◌, ◌%◌, ◌<◌, ◌≤◌, List, get_or, Bool, true, false, refl, ap, sym, arith}
use Rattle.std.specs.Prelude.{nat_le, slice_index, ◌&&◌, not}
use Rattle.std.specs.Int.{bit_at}
use Rattle.std.proofs.lemmas.Bool.{cases_lt, false≢true}
use Rattle.std.proofs.lemmas.Bool.Decides.{nat_tests}
use Rattle.std.proofs.lemmas.Nat.Bits.{bit_at-lt}
use Rattle.std.proofs.lemmas.List.FromFn.{get_or-map-range_with_len}
use Rattle.frame_model.specs.declared.key.Key.{Key}
use Rattle.frame_model.specs.Words.{bit_word_of, bit_of, huge_of}
use Rattle.frame_core.specs.Image.{IsImage, SetsPastEnd}
use Rattle.frame_text.specs.ImageText.{frames_in, keeps_end, all_set_from, child_bits}
use Rattle.frame_text.proofs.Ranges.{clear_from}

-- the bits of an image
module _ (key : Key) (ws : List ℕ) (image : IsImage key ws) where
  pub word_past : (w : ℕ) → w < 8 * key.children → SetsPastEnd key w (bit_word_of key ws w)
  unfolding bit_of
  word_past w h i few past =
      let word : (64 * w + i) / 64 ≡ w = omega arith in
      let bit : (64 * w + i) % 64 ≡ i = omega arith in
      sym (ap (λ v. bit_at (bit_word_of key ws v) ((64 * w + i) % 64)) word ∙ ap (bit_at (bit_word_of key ws w)) bit)
      ∙ image.past_end (64 * w + i) past (omega arith)

  pub child_past : (c : ℕ) → c < key.children → (i : ℕ) → i < 8 → SetsPastEnd key (8 * c + i) (get_or (child_bits key ws c) i 0)
  unfolding child_bits
  child_past c h i few j q p =
      ap (λ n. bit_at n j) (get_or-map-range_with_len (bit_word_of key ws) (8 * c) 8 i (8 * c + i) 0 few refl)
      ∙ word_past (8 * c + i) (omega arith) j q p

  -- a huge frame is whole
  pub huge_whole : (c : ℕ) → c < key.children → huge_of ws c ≢ 0 → 512 * (c + 1) ≤ key.frames
  huge_whole c h ne = ⊎_elim (λ p. absurd (ne (image.cut c h p))) (λ whole. whole) (cases_lt key.frames (512 * (c + 1)))

-- nothing of a whole child lies past the end
pub whole_past : (key : Key) (c w n : ℕ) → w / 8 ≡ c → 512 * (c + 1) ≤ key.frames → SetsPastEnd key w n
whole_past key c w n at whole i few past = absurd (omega (arith, at, whole, few, past))

-- What a record of a child keeps.

-- of a child that is not whole: no flag, and the rest is set
cut_kept : (frames : ℕ) (huge : Bool) (bits : List ℕ) → frames < 512 → keeps_end frames huge bits ≡ true
    → (huge ≡ false) × (all_set_from frames bits ≡ true)
unfolding keeps_end
cut_kept frames huge bits few kept =
    let cut : nat_le 512 frames ≡ false = grind (arith, nat_tests) in by_flag huge (rw cut at kept)
  where
    by_flag : (b : Bool) → (not b && all_set_from frames bits) ≡ true → (b ≡ false) × (all_set_from frames bits ≡ true)
    by_flag true e = absurd (false≢true e)
    by_flag false e = (refl, e)

module _ (key : Key) (c : ℕ) (huge : Bool) (bits : List ℕ) (kept : keeps_end (frames_in key c) huge bits ≡ true) where
  pub kept_whole : huge ≡ true → 512 * (c + 1) ≤ key.frames
  kept_whole up =
      ⊎_elim
      (λ p. absurd (false≢true (sym (cut_kept (frames_in key c) huge bits (omega arith) kept).0 ∙ up)))
      (λ whole. whole)
      (cases_lt key.frames (512 * (c + 1)))

  pub kept_past : (w : ℕ) → w < 8 → SetsPastEnd key (8 * c + w) (slice_index bits w)
  kept_past w few i less past =
      let all = (cut_kept (frames_in key c) huge bits (omega arith) kept).1 in
      let word : (64 * w + i) / 64 ≡ w = omega arith in
      let bit : (64 * w + i) % 64 ≡ i = omega arith in
      let n : ℕ = bit_at (slice_index bits ((64 * w + i) / 64)) ((64 * w + i) % 64) in
      let set : n ≢ 0 = λ e. false≢true (sym (clear_from (frames_in key c) (64 * w + i) bits (omega arith) (omega arith) e) ∙ all) in
      let one : n ≡ 1 = omega (arith, set, bit_at-lt (slice_index bits ((64 * w + i) / 64)) ((64 * w + i) % 64)) in
      sym (ap (λ v. bit_at (slice_index bits v) ((64 * w + i) % 64)) word ∙ ap (bit_at (slice_index bits w)) bit) ∙ one
