-- What rebuilding makes of the words of one child.
use Rattle.std.proofs.Common.{◌≡◌, ℕ, zero, suc, ◌+◌, ◌-◌, ◌/◌, ◌%◌, ◌^◌, ◌<◌, ◌≤◌, List, None, Bool, false, replicate, refl, ap, sym}
use Rattle.std.proofs.Common.{subst, ◌∙◌, arith}
use Rattle.std.specs.Prelude.{if◌then◌else◌}
use Rattle.std.specs.Int.Count.{ones}
use Rattle.std.proofs.lemmas.Bool.Decides.{nat_tests}
use Rattle.std.proofs.lemmas.Nat.Bits.{bit_at-zero}
use Rattle.std.specs.Int.{bit_at}
use Rattle.frame_words.specs.Words.{entry_word, free_in, flag_in, lane_in, lane_put, lane_shift, rest_in}
use Rattle.frame_words.proofs.WordLemmas.{rest_in-zero}
use Rattle.frame_model.specs.declared.key.Key.{Key}
use Rattle.frame_model.specs.Key.{is_boot_frame}
use Rattle.frame_model.specs.Words.{entry_place, tree_place, local_place, bits_place, word_count, entry_of, free_of, huge_of, tree_word_of}
use Rattle.frame_model.specs.Words.{tree_free_of, reserved_of, local_word_of, rest_of, bit_word_of, bit_of, set_of, with_entry, with_tree}
use Rattle.frame_model.specs.Words.{with_bits, AreInRange}
use Rattle.frame_model.specs.Rebuilt.{rebuilt_free, rebuilt_in_tree, rebuilt_bits, IsRebuilt}
use Rattle.frame_model.specs.WorkedRuns.{one_child, words_of_one, full_word, all_free, OpensAllFree}
use Rattle.frame_model.proofs.Zeros.{zeros_in_range}
use Rattle.frame_model.proofs.Bits.{ones_zero}
use Rattle.frame_model.proofs.Words.{entry_written, tree_written, bits_written}
use Rattle.frame_model.proofs.Steps.Shared.{free_is, flag_is, free_of_is, huge_of_is, bit_is}
use Rattle.frame_model.proofs.WorkedRuns.Pieces.{set_eight}

pub no_bits : 0 < 2 ^ 64
no_bits = omega arith

pub all_bits : full_word < 2 ^ 64
all_bits = omega arith

-- there is one child, one tree and one core
pub only_first : (P : ℕ → Type 0) → P 0 → (i : ℕ) → i < 1 → P i
only_first P p zero h = p
only_first P p (suc i) h = absurd (omega arith)

-- and there are eight bit words
pub one_of_eight : (P : ℕ → Type 0) → P 0 → P 1 → P 2 → P 3 → P 4 → P 5 → P 6 → P 7 → (i : ℕ) → i < 8 → P i
one_of_eight P p0 p1 p2 p3 p4 p5 p6 p7 zero h = p0
one_of_eight P p0 p1 p2 p3 p4 p5 p6 p7 (suc zero) h = p1
one_of_eight P p0 p1 p2 p3 p4 p5 p6 p7 (suc (suc zero)) h = p2
one_of_eight P p0 p1 p2 p3 p4 p5 p6 p7 (suc (suc (suc zero))) h = p3
one_of_eight P p0 p1 p2 p3 p4 p5 p6 p7 (suc (suc (suc (suc zero)))) h = p4
one_of_eight P p0 p1 p2 p3 p4 p5 p6 p7 (suc (suc (suc (suc (suc zero))))) h = p5
one_of_eight P p0 p1 p2 p3 p4 p5 p6 p7 (suc (suc (suc (suc (suc (suc zero)))))) h = p6
one_of_eight P p0 p1 p2 p3 p4 p5 p6 p7 (suc (suc (suc (suc (suc (suc (suc zero))))))) h = p7
one_of_eight P p0 p1 p2 p3 p4 p5 p6 p7 (suc (suc (suc (suc (suc (suc (suc (suc i)))))))) h = absurd (omega arith)

-- a first entry, and a first tree
first_entry : AreInRange one_child (words_of_one 512 0 0 0 0 0 0 0 0 0 0)
unfolding entry_place word_count entry_word lane_in lane_put lane_shift with_entry free_in flag_in
first_entry = (entry_written one_child (replicate 40 0) 0 512 (zeros_in_range one_child) (omega arith) (omega arith)).in_range
    (omega arith) (omega arith)

-- the entry is written where nothing else stands in its word
lone_entry : (e : ℕ) → lane_put 512 0 e ≡ e
unfolding lane_put lane_in lane_shift
lone_entry e = omega arith

module _ (e t b0 b1 b2 b3 b4 b5 b6 b7 : ℕ) (small : e < 65536) (free : free_in e ≤ 512) (flag : flag_in e ≤ 1) (few : t ≤ 512)
    (f0 : b0 < 2 ^ 64) (f1 : b1 < 2 ^ 64) (f2 : b2 < 2 ^ 64) (f3 : b3 < 2 ^ 64) (f4 : b4 < 2 ^ 64) (f5 : b5 < 2 ^ 64)
    (f6 : b6 < 2 ^ 64) (f7 : b7 < 2 ^ 64) where
  entry_put : AreInRange one_child (words_of_one e 0 0 0 0 0 0 0 0 0 0)
  unfolding with_entry entry_place
  entry_put =
      subst (λ n. AreInRange one_child (words_of_one n 0 0 0 0 0 0 0 0 0 0)) (lone_entry e)
      ((entry_written one_child (words_of_one 512 0 0 0 0 0 0 0 0 0 0) 0 e first_entry (omega arith) small).in_range free flag)

  tree_put : AreInRange one_child (words_of_one e t 0 0 0 0 0 0 0 0 0)
  unfolding with_tree tree_place
  tree_put =
      (tree_written one_child (words_of_one e 0 0 0 0 0 0 0 0 0 0) 0 t entry_put (omega arith)).in_range
      (omega (arith, free_is t)) (omega (arith, flag_is t))

  pub are_in_range : AreInRange one_child (words_of_one e t 0 b0 b1 b2 b3 b4 b5 b6 b7)
  unfolding with_bits bits_place
  are_in_range =
      let r0 = (bits_written one_child (words_of_one e t 0 0 0 0 0 0 0 0 0) 0 b0 tree_put (omega arith)).in_range f0 in
      let r1 = (bits_written one_child (words_of_one e t 0 b0 0 0 0 0 0 0 0) 1 b1 r0 (omega arith)).in_range f1 in
      let r2 = (bits_written one_child (words_of_one e t 0 b0 b1 0 0 0 0 0 0) 2 b2 r1 (omega arith)).in_range f2 in
      let r3 = (bits_written one_child (words_of_one e t 0 b0 b1 b2 0 0 0 0 0) 3 b3 r2 (omega arith)).in_range f3 in
      let r4 = (bits_written one_child (words_of_one e t 0 b0 b1 b2 b3 0 0 0 0) 4 b4 r3 (omega arith)).in_range f4 in
      let r5 = (bits_written one_child (words_of_one e t 0 b0 b1 b2 b3 b4 0 0 0) 5 b5 r4 (omega arith)).in_range f5 in
      let r6 = (bits_written one_child (words_of_one e t 0 b0 b1 b2 b3 b4 b5 0 0) 6 b6 r5 (omega arith)).in_range f6 in
      (bits_written one_child (words_of_one e t 0 b0 b1 b2 b3 b4 b5 b6 0) 7 b7 r6 (omega arith)).in_range f7

rebuilt_plain : (key : Key) (ws : List ℕ) (c : ℕ) → huge_of ws c ≡ 0 → rebuilt_free key ws c ≡ 512 - set_of key ws c
unfolding rebuilt_free
rebuilt_plain key ws c h = grind (arith, nat_tests)

rebuilt_huge : (key : Key) (ws : List ℕ) (c : ℕ) → huge_of ws c ≡ 1 → rebuilt_free key ws c ≡ 0
unfolding rebuilt_free
rebuilt_huge key ws c h = grind (arith, nat_tests)

bits_plain : (key : Key) (ws : List ℕ) (w : ℕ) → huge_of ws (w / 8) ≡ 0 → rebuilt_bits key ws w ≡ bit_word_of key ws w
unfolding rebuilt_bits
bits_plain key ws w h = grind (arith, nat_tests)

bits_huge : (key : Key) (ws : List ℕ) (w : ℕ) → huge_of ws (w / 8) ≡ 1 → rebuilt_bits key ws w ≡ 0
unfolding rebuilt_bits
bits_huge key ws w h = grind (arith, nat_tests)

only_child : (ws : List ℕ) → rebuilt_in_tree one_child ws 0 ≡ rebuilt_free one_child ws 0
unfolding rebuilt_in_tree
only_child ws = omega arith

module _ (e t c b0 b1 b2 b3 b4 b5 b6 b7 : ℕ) where
  reads_entry : e < 65536 → entry_of (words_of_one e t c b0 b1 b2 b3 b4 b5 b6 b7) 0 ≡ e
  unfolding entry_of entry_place lane_in lane_shift
  reads_entry h = omega arith

  reads_free : e < 65536 → free_of (words_of_one e t c b0 b1 b2 b3 b4 b5 b6 b7) 0 ≡ free_in e
  reads_free h = free_of_is (words_of_one e t c b0 b1 b2 b3 b4 b5 b6 b7) 0 ∙ ap free_in (reads_entry h)

  reads_huge : e < 65536 → huge_of (words_of_one e t c b0 b1 b2 b3 b4 b5 b6 b7) 0 ≡ flag_in e
  reads_huge h = huge_of_is (words_of_one e t c b0 b1 b2 b3 b4 b5 b6 b7) 0 ∙ ap flag_in (reads_entry h)

  reads_tree : tree_free_of one_child (words_of_one e t c b0 b1 b2 b3 b4 b5 b6 b7) 0 ≡ free_in t
  unfolding tree_free_of tree_word_of tree_place
  reads_tree = refl

  reads_reserved : reserved_of one_child (words_of_one e t c b0 b1 b2 b3 b4 b5 b6 b7) 0 ≡ flag_in t
  unfolding reserved_of tree_word_of tree_place
  reads_reserved = refl

  reads_rest : rest_of one_child (words_of_one e t c b0 b1 b2 b3 b4 b5 b6 b7) 0 ≡ rest_in c
  unfolding rest_of local_word_of local_place
  reads_rest = refl

module _ (e t c n b0 b1 b2 b3 b4 b5 b6 b7 : ℕ) (unflagged : e ≤ 512)
    (all : n + (ones b0 + ones b1 + ones b2 + ones b3 + ones b4 + ones b5 + ones b6 + ones b7) ≡ 512)
    (f0 : b0 < 2 ^ 64) (f1 : b1 < 2 ^ 64) (f2 : b2 < 2 ^ 64) (f3 : b3 < 2 ^ 64) (f4 : b4 < 2 ^ 64) (f5 : b5 < 2 ^ 64)
    (f6 : b6 < 2 ^ 64) (f7 : b7 < 2 ^ 64) where
  -- a child without a flag counts what is not set, and its bits stay
  pub rebuilt_by_bits : IsRebuilt one_child (words_of_one e t c b0 b1 b2 b3 b4 b5 b6 b7) (words_of_one n n 0 b0 b1 b2 b3 b4 b5 b6 b7)
  unfolding bit_word_of bits_place
  rebuilt_by_bits =
      let old : List ℕ = words_of_one e t c b0 b1 b2 b3 b4 b5 b6 b7 in
      let new : List ℕ = words_of_one n n 0 b0 b1 b2 b3 b4 b5 b6 b7 in
      let plain : huge_of old 0 ≡ 0 = omega (arith, reads_huge e t c b0 b1 b2 b3 b4 b5 b6 b7 (omega arith), flag_is e) in
      let free_n : free_in n ≡ n = omega (arith, free_is n) in
      let flag_n : flag_in n ≡ 0 = omega (arith, flag_is n) in
      let counted : rebuilt_free one_child old 0 ≡ n =
      omega (arith, rebuilt_plain one_child old 0 plain, set_eight e t c b0 b1 b2 b3 b4 b5 b6 b7, all) in
      let same : (w : ℕ) → huge_of old (w / 8) ≡ 0 → bit_word_of one_child old w ≡ rebuilt_bits one_child old w =
      λ w h. sym (bits_plain one_child old w h) in
      record {
        in_range = are_in_range n n b0 b1 b2 b3 b4 b5 b6 b7 (omega arith) (omega (arith, free_n))
            (omega (arith, flag_n)) (omega arith) f0 f1 f2 f3 f4 f5 f6 f7;
        huge = only_first (λ i. huge_of new i ≡ huge_of old i)
            (omega (arith, plain, reads_huge n n 0 b0 b1 b2 b3 b4 b5 b6 b7 (omega arith), flag_n));
        free = only_first (λ i. free_of new i ≡ rebuilt_free one_child old i)
            (omega (arith, counted, reads_free n n 0 b0 b1 b2 b3 b4 b5 b6 b7 (omega arith), free_n));
        bits = one_of_eight (λ w. bit_word_of one_child new w ≡ rebuilt_bits one_child old w) (same 0 plain)
            (same 1 plain) (same 2 plain) (same 3 plain) (same 4 plain) (same 5 plain) (same 6 plain) (same 7 plain);
        trees = only_first (λ i. tree_free_of one_child new i ≡ rebuilt_in_tree one_child old i)
            (omega (arith, counted, only_child old, reads_tree n n 0 b0 b1 b2 b3 b4 b5 b6 b7, free_n));
        unreserved = only_first (λ i. reserved_of one_child new i ≡ 0) (reads_reserved n n 0 b0 b1 b2 b3 b4 b5 b6 b7 ∙ flag_n);
        resting = only_first (λ i. rest_of one_child new i ≡ None) (reads_rest n n 0 b0 b1 b2 b3 b4 b5 b6 b7 ∙ rest_in-zero);
      }

-- a child with a flag keeps it, and its bits are cleared
pub rebuilt_by_flag : (t c b0 b1 b2 b3 b4 b5 b6 b7 : ℕ)
    → IsRebuilt one_child (words_of_one 32768 t c b0 b1 b2 b3 b4 b5 b6 b7) (words_of_one 32768 0 0 0 0 0 0 0 0 0 0)
unfolding bit_word_of bits_place
rebuilt_by_flag t c b0 b1 b2 b3 b4 b5 b6 b7 =
    let old : List ℕ = words_of_one 32768 t c b0 b1 b2 b3 b4 b5 b6 b7 in
    let new : List ℕ = words_of_one 32768 0 0 0 0 0 0 0 0 0 0 in
    let free : free_in 32768 ≡ 0 = free_is 32768 in
    let flag : flag_in 32768 ≡ 1 = flag_is 32768 in
    let up : huge_of old 0 ≡ 1 = reads_huge 32768 t c b0 b1 b2 b3 b4 b5 b6 b7 (omega arith) ∙ flag in
    let none : rebuilt_free one_child old 0 ≡ 0 = rebuilt_huge one_child old 0 up in
    let zero_free : free_in 0 ≡ 0 = free_is 0 in
    let zero_flag : flag_in 0 ≡ 0 = flag_is 0 in
    let cleared : (w : ℕ) → huge_of old (w / 8) ≡ 1 → 0 ≡ rebuilt_bits one_child old w = λ w h. sym (bits_huge one_child old w h) in
    record {
      in_range = are_in_range 32768 0 0 0 0 0 0 0 0 0 (omega arith) (omega (arith, free)) (omega (arith, flag))
          (omega arith) no_bits no_bits no_bits no_bits no_bits no_bits no_bits no_bits;
      huge = only_first (λ i. huge_of new i ≡ huge_of old i) (omega (arith, up, reads_huge 32768 0 0 0 0 0 0 0 0 0 0 (omega arith), flag));
      free = only_first (λ i. free_of new i ≡ rebuilt_free one_child old i)
          (omega (arith, none, reads_free 32768 0 0 0 0 0 0 0 0 0 0 (omega arith), free));
      bits = one_of_eight (λ w. bit_word_of one_child new w ≡ rebuilt_bits one_child old w) (cleared 0 up)
          (cleared 1 up) (cleared 2 up) (cleared 3 up) (cleared 4 up) (cleared 5 up) (cleared 6 up) (cleared 7 up);
      trees = only_first (λ i. tree_free_of one_child new i ≡ rebuilt_in_tree one_child old i)
          (omega (arith, none, only_child old, reads_tree 32768 0 0 0 0 0 0 0 0 0 0, zero_free));
      unreserved = only_first (λ i. reserved_of one_child new i ≡ 0) (reads_reserved 32768 0 0 0 0 0 0 0 0 0 0 ∙ zero_flag);
      resting = only_first (λ i. rest_of one_child new i ≡ None) (reads_rest 32768 0 0 0 0 0 0 0 0 0 0 ∙ rest_in-zero);
    }

-- The opening.

no_boot_frame : (x : ℕ) → x < 512 → is_boot_frame one_child x ≡ false
unfolding is_boot_frame
no_boot_frame x h = grind (arith, nat_tests)

words_are_clear : (w : ℕ) → w < 8 → bit_word_of one_child all_free w ≡ 0
unfolding bit_word_of bits_place
words_are_clear = one_of_eight (λ w. bit_word_of one_child all_free w ≡ 0) refl refl refl refl refl refl refl refl

no_bit : (x : ℕ) → x < 512 → bit_of one_child all_free x ≡ 0
no_bit x h =
    bit_is one_child all_free x (x / 64) refl ∙ ap (λ n. bit_at n (x % 64)) (words_are_clear (x / 64) (omega arith)) ∙ bit_at-zero (x % 64)

pub opens_all_free : OpensAllFree
opens_all_free = record {
  sealed = refl;
  exact = rebuilt_by_bits 512 512 0 512 0 0 0 0 0 0 0 0 (omega arith)
      (omega (arith, ones_zero)) no_bits no_bits no_bits no_bits no_bits no_bits no_bits no_bits;
  unflagged = only_first (λ i. huge_of all_free i ≡ 0) (reads_huge 512 512 0 0 0 0 0 0 0 0 0 (omega arith) ∙ flag_is 512);
  boot_frames = λ x h. no_bit x h ∙ sym (ap (λ (b : Bool). if b then 1 else 0) (no_boot_frame x h));
}
