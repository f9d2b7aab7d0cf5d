-- Words of which only the bits past the end are set: no part is known yet.
use Rattle.std.proofs.Common.{◌≡◌, ℕ, ◌+◌, ◌-◌, ◌*◌, ◌/◌, ◌%◌, ◌^◌, ◌<◌, ◌≤◌, List, length, get_or, map, min, replicate, ap, sym}
use Rattle.std.proofs.Common.{subst, ◌∙◌, arith, None, ◌++◌, [], ◌∷◌, append_assoc, append-nil}
use Rattle.std.specs.Int.{bit_at}
use Rattle.std.specs.List.{range_with_len}
use Rattle.std.proofs.Math.Pow.{pow_mono}
use Rattle.std.proofs.lemmas.List.{get_or-replicate, get_or_append_left, get_or-append_right, length-append, length-replicate}
use Rattle.std.proofs.lemmas.List.FromFn.{get_or-map-range_with_len, map-range_with_len_more, length-map-range_with_len}
use Rattle.frame_words.specs.Words.{free_in, flag_in, lane_in, rest_in, local_word}
use Rattle.frame_words.proofs.LaneLemmas.{lane_in-zero}
use Rattle.frame_words.proofs.WordLemmas.{free_in-zero, flag_in-zero, rest_in-zero}
use Rattle.frame_model.specs.declared.key.Key.{Key}
use Rattle.frame_model.specs.Key.{tree_count, frame_count}
use Rattle.frame_model.specs.Words.{entry_place, tree_place, local_place, bits_place, word_count, entry_of, free_of}
use Rattle.frame_model.specs.Words.{huge_of, tree_word_of, tree_free_of, reserved_of, local_word_of, rest_of, bit_word_of, bit_of, IsRest}
use Rattle.frame_model.specs.Words.{AreInRange}
use Rattle.frame_core.specs.Image.{IsImage, IsUncounted, bits_past, blank_words}
use Rattle.frame_model.proofs.Bits.{bit_at_run_inside}
use Rattle.frame_core.proofs.Counters.{uncounted_image}
use Rattle.frame_model.proofs.Words.{entry-lt-bits, tree-lt-bits, local-lt-bits, child-has-lane}
use Rattle.frame_model.proofs.Zeros.{local_word-none}

-- The words in the making: so many bit words behind the zeros.

unfoldable pub blank_front : Key → ℕ → List ℕ
blank_front key words = replicate (bits_place key 0) 0 ++ map (bits_past key) (range_with_len 0 words)

pub front_none : (key : Key) (ws : List ℕ) (many : ℕ) → ws ≡ replicate {A = ℕ} many 0 → many ≡ bits_place key 0
    → ws ≡ blank_front key 0
unfolding blank_front
front_none key ws many is e =
    let Z : ℕ → List ℕ = λ n. replicate n 0 in is ∙ ap Z e ∙ sym (append-nil (replicate {A = ℕ} (bits_place key 0) 0))

pub front_more : (key : Key) (ws : List ℕ) (w n : ℕ) → ws ≡ blank_front key w → n ≡ bits_past key w
    → ws ++ n ∷ [] ≡ blank_front key (w + 1)
unfolding blank_front
front_more key ws w n is e =
    let zeros : List ℕ = replicate (bits_place key 0) 0 in
    let bits : List ℕ = map (bits_past key) (range_with_len 0 w) in
    ap (λ l. l ++ n ∷ []) is ∙ append_assoc zeros bits (n ∷ []) ∙ ap (λ v. zeros ++ (bits ++ v ∷ [])) e
    ∙ ap (λ l. zeros ++ l) (sym (map-range_with_len_more (bits_past key) 0 w w (omega arith)))

pub front_all : (key : Key) (ws : List ℕ) (w : ℕ) → ws ≡ blank_front key w → w ≡ 8 * key.children → ws ≡ blank_words key
unfolding blank_front blank_words
front_all key ws w is e = is ∙ ap (λ n. replicate (bits_place key 0) 0 ++ map (bits_past key) (range_with_len 0 n)) e

-- The words, by their places.

bits_place-at : (key : Key) (w : ℕ) → bits_place key w ≡ bits_place key 0 + w
unfolding bits_place
bits_place-at key w = omega arith

counts : (key : Key) → bits_place key 0 + 8 * key.children ≡ word_count key
unfolding bits_place word_count
counts key = omega arith

module _ (key : Key) where
  low : (i : ℕ) → i < bits_place key 0 → get_or (blank_words key) i 0 ≡ 0
  unfolding blank_words
  low i h =
      get_or_append_left (replicate {A = ℕ} (bits_place key 0) 0) (map (bits_past key) (range_with_len 0 (8 * key.children))) 0 i
      (omega (arith, length-replicate {A = ℕ} (bits_place key 0) 0))
      ∙ get_or-replicate (bits_place key 0) i 0 0 h

  pub blank_bits : (w : ℕ) → w < 8 * key.children → bit_word_of key (blank_words key) w ≡ bits_past key w
  unfolding bit_word_of blank_words
  blank_bits w h =
      let n : ℕ = bits_place key 0 in
      let bits : List ℕ = map (bits_past key) (range_with_len 0 (8 * key.children)) in
      let e : bits_place key w - n ≡ w = omega (arith, bits_place-at key w) in
      get_or-append_right (replicate {A = ℕ} n 0) bits n (bits_place key w) 0 (length-replicate {A = ℕ} n 0)
      (omega (arith, bits_place-at key w))
      ∙ ap (λ i. get_or bits i 0) e
      ∙ get_or-map-range_with_len (bits_past key) 0 (8 * key.children) w w 0 h (omega arith)

  blank_length : length (blank_words key) ≡ word_count key
  unfolding blank_words
  blank_length =
      let bits : List ℕ = map (bits_past key) (range_with_len 0 (8 * key.children)) in
      omega (
        arith,
        length-append (replicate {A = ℕ} (bits_place key 0) 0) bits,
        length-replicate {A = ℕ} (bits_place key 0) 0,
        length-map-range_with_len (bits_past key) 0 (8 * key.children),
        counts key,
      )

  -- The bits past the end.

  whole : (w : ℕ) → min 64 (key.frames - 64 * w) + (64 - min 64 (key.frames - 64 * w)) ≡ 64
  whole w = omega arith

  bits_past-lt : (w : ℕ) → bits_past key w < 2 ^ 64
  unfolding bits_past
  bits_past-lt w = omega (arith, ap (λ n. 2 ^ n) (whole w), pow_mono {i = 0} {j = min 64 (key.frames - 64 * w)} (omega arith))

  bits_past-set : (x : ℕ) → key.frames ≤ x → bit_at (bits_past key (x / 64)) (x % 64) ≡ 1
  unfolding bits_past
  bits_past-set x h =
      let m : ℕ = min 64 (key.frames - 64 * (x / 64)) in
      bit_at_run_inside m (64 - m) (x % 64) (omega arith) (omega (arith, whole (x / 64)))

  past_set : (x : ℕ) → key.frames ≤ x → x < frame_count key → bit_of key (blank_words key) x ≡ 1
  unfolding bit_of
  past_set x h inside =
      ap (λ n. bit_at n (x % 64)) (blank_bits (x / 64) (omega arith)) ∙ bits_past-set x h

  -- What the readers say.

  entry_zero : (c : ℕ) → c < 8 * tree_count key → entry_of (blank_words key) c ≡ 0
  unfolding entry_of
  entry_zero c h = ap (λ n. lane_in n c) (low (entry_place c) (entry-lt-bits key c 0 h)) ∙ lane_in-zero c

  free_zero : (c : ℕ) → c < key.children → free_of (blank_words key) c ≡ 0
  unfolding free_of
  free_zero c h = ap free_in (entry_zero c (child-has-lane key c h)) ∙ free_in-zero

  huge_zero : (c : ℕ) → c < key.children → huge_of (blank_words key) c ≡ 0
  unfolding huge_of
  huge_zero c h = ap flag_in (entry_zero c (child-has-lane key c h)) ∙ flag_in-zero

  tree_free_zero : (t : ℕ) → t < tree_count key → tree_free_of key (blank_words key) t ≡ 0
  unfolding tree_free_of tree_word_of
  tree_free_zero t h = ap free_in (low (tree_place key t) (tree-lt-bits key t 0 h)) ∙ free_in-zero

  reserved_zero : (t : ℕ) → t < tree_count key → reserved_of key (blank_words key) t ≡ 0
  unfolding reserved_of tree_word_of
  reserved_zero t h = ap flag_in (low (tree_place key t) (tree-lt-bits key t 0 h)) ∙ flag_in-zero

  local_zero : (k : ℕ) → k < key.cores → local_word_of key (blank_words key) k ≡ 0
  unfolding local_word_of
  local_zero k h = low (local_place key k) (local-lt-bits key k 0 h)

  rest_zero : (k : ℕ) → k < key.cores → rest_of key (blank_words key) k ≡ None
  unfolding rest_of
  rest_zero k h = ap rest_in (local_zero k h) ∙ rest_in-zero

  behind-lt : (u i : ℕ) → u < tree_count key → i < 8 → entry_place (8 * u) + i < bits_place key 0
  unfolding entry_place bits_place
  behind-lt u i h few = omega arith

  between-lt : (i : ℕ) → i < 7 → tree_place key (tree_count key) + i < bits_place key 0
  unfolding tree_place bits_place
  between-lt i h = omega arith

  beside-lt : (k i : ℕ) → k < key.cores → i < 8 → local_place key k + i < bits_place key 0
  unfolding local_place bits_place
  beside-lt k i h few = omega arith

  anchor-lt : (i : ℕ) → i < 8 → i < bits_place key 0
  unfolding bits_place
  anchor-lt i h = omega arith

  blank_in_range : AreInRange key (blank_words key)
  blank_in_range = record {
    count = blank_length;
    anchor = λ i q. low i (anchor-lt i q);
    entry_words = λ c q. omega (arith, low (entry_place c) (entry-lt-bits key c 0 q));
    free = λ c q. omega (arith, free_zero c q);
    huge = λ c q. omega (arith, huge_zero c q);
    absent = λ c l q. entry_zero c q;
    behind = λ u i q l m. low (entry_place (8 * u) + i) (behind-lt u i q m);
    tree_free = λ t q. omega (arith, tree_free_zero t q);
    reserved = λ t q. omega (arith, reserved_zero t q);
    locals = λ k q. local_zero k q ∙ sym (ap local_word (rest_zero k q) ∙ local_word-none);
    rests = λ k q. subst (IsRest key) (sym (rest_zero k q)) tt;
    bits = λ w q. omega (arith, blank_bits w q, bits_past-lt w);
    between = λ i q. low (tree_place key (tree_count key) + i) (between-lt i q);
    beside = λ k i q l m. low (local_place key k + i) (beside-lt k i q m);
  }

  -- nothing is counted, whole or reserved
  pub blank_uncounted : IsUncounted key (blank_words key)
  blank_uncounted = record {
    in_range = blank_in_range;
    huge = huge_zero;
    trees = tree_free_zero;
    unreserved = reserved_zero;
    resting = rest_zero;
  }

  -- and so it is an image
  pub blank_image : IsImage key (blank_words key)
  blank_image = uncounted_image key (blank_words key) blank_uncounted past_set
