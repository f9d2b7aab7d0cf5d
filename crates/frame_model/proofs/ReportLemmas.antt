-- The held frames, counted one by one, are those that bits and flags tell by the child.
use Rattle.std.proofs.Common.{◌≡◌, ⊎_elim, ℕ, zero, suc, ◌+◌, ◌*◌, ◌/◌, ◌%◌, ◌^◌, ◌<◌, ◌≤◌, List, [], ◌∷◌, length, get_or, take, drop, refl}
use Rattle.std.proofs.Common.{ap, subst, ◌∙◌, arith, length-drop, get_or-drop}
use Rattle.std.specs.List.{sum_by, range_with_len}
use Rattle.std.specs.Int.{bit_at}
use Rattle.std.specs.Int.Count.{ones, ones_step}
use Rattle.std.proofs.lemmas.Nat.Bits.{bit_at_lowest, bit_at-suc, bit_at-lt}
use Rattle.std.proofs.lemmas.Bool.{cases_eq}
use Rattle.std.proofs.lemmas.List.{take_more}
use Rattle.std.proofs.lemmas.List.Sums.{sum_by-cons, sum_by-append}
use Rattle.frame_model.specs.declared.key.Key.{Key}
use Rattle.frame_model.specs.Key.{tree_count, children_in, size_of}
use Rattle.frame_model.specs.Words.{bits_place, word_count, huge_of, bit_word_of, bit_of, set_of, held_of, held_in_tree, AreInRange}
use Rattle.frame_model.specs.Report.{held_at, held_within, held_frames_of, held_frames}
use Rattle.frame_model.proofs.Sums.{range_same}
use Rattle.frame_model.proofs.Bits.{ones_zero}
use Rattle.std.proofs.Math.Nat.{pow-suc}

-- Sums over ranges of numbers.

-- one number more at the front of each
range_shift : (f : ℕ → ℕ) (a n : ℕ) → sum_by f (range_with_len (a + 1) n) ≡ sum_by (λ i. f (i + 1)) (range_with_len a n)
range_shift f a zero = refl
range_shift f a (suc n) =
    omega (
      arith,
      sum_by-cons f (a + 1) (range_with_len (a + 1 + 1) n),
      sum_by-cons (λ i. f (i + 1)) a (range_with_len (a + 1) n),
      range_shift f (a + 1) n,
    )

-- a range is its first part and the rest
pub range_split : (f : ℕ → ℕ) (a m n : ℕ)
    → sum_by f (range_with_len a (m + n)) ≡ sum_by f (range_with_len a m) + sum_by f (range_with_len (a + m) n)
range_split f a zero n =
    let n_is : 0 + n ≡ n = omega arith in
    let a_is : a + 0 ≡ a = omega arith in
    omega (arith, ap (λ j. sum_by f (range_with_len a j)) n_is, ap (λ j. sum_by f (range_with_len j n)) a_is)
range_split f a (suc m) n =
    let n_is : suc m + n ≡ suc (m + n) = omega arith in
    let a_is : a + suc m ≡ a + 1 + m = omega arith in
    omega (
      arith,
      ap (λ j. sum_by f (range_with_len a j)) n_is,
      ap (λ j. sum_by f (range_with_len j n)) a_is,
      sum_by-cons f a (range_with_len (a + 1) (m + n)),
      sum_by-cons f a (range_with_len (a + 1) m),
      range_split f (a + 1) m n,
    )

-- a range counted from its first number
pub range_from : (f : ℕ → ℕ) (a n : ℕ) → sum_by f (range_with_len a n) ≡ sum_by (λ i. f (a + i)) (range_with_len 0 n)
range_from f zero n = range_same (λ i. f (0 + i)) f 0 n (λ d l r. ap f (omega arith))
range_from f (suc a) n =
    let e : suc a ≡ a + 1 = omega arith in
    ap (λ j. sum_by f (range_with_len j n)) e ∙ range_shift f a n ∙ range_from (λ i. f (i + 1)) a n
    ∙ range_same (λ i. f (suc a + i)) (λ i. f (a + i + 1)) 0 n (λ d l r. ap f (omega arith))

pub range_le : (f g : ℕ → ℕ) (a n : ℕ) → ((d : ℕ) → a ≤ d → d < a + n → f d ≤ g d)
    → sum_by f (range_with_len a n) ≤ sum_by g (range_with_len a n)
range_le f g a zero all = omega arith
range_le f g a (suc n) all =
    omega (
      arith,
      sum_by-cons f a (range_with_len (a + 1) n),
      sum_by-cons g a (range_with_len (a + 1) n),
      all a (omega arith) (omega arith),
      range_le f g (a + 1) n (λ d l r. all d (omega arith) (omega arith)),
    )

pub range_ones : (a n : ℕ) → sum_by (λ _. 1) (range_with_len a n) ≡ n
range_ones a zero = refl
range_ones a (suc n) = omega (arith, sum_by-cons (λ _. 1) a (range_with_len (a + 1) n), range_ones (a + 1) n)

-- Bits counted one by one.

-- the ones of a number of k bits
sum_bits : (k n : ℕ) → n < 2 ^ k → sum_by (bit_at n) (range_with_len 0 k) ≡ ones n
sum_bits zero n h = let e : n ≡ 0 = omega arith in omega (arith, ap ones e, ones_zero)
sum_bits (suc k) n h =
    let next : (d : ℕ) → bit_at n (d + 1) ≡ bit_at (n / 2) d = λ d. let e : d + 1 ≡ suc d = omega arith in
    ap (bit_at n) e ∙ bit_at-suc n d in
    omega (
      arith,
      sum_by-cons (bit_at n) 0 (range_with_len 1 k),
      range_shift (bit_at n) 0 k,
      range_same (bit_at (n / 2)) (λ i. bit_at n (i + 1)) 0 k (λ d l r. next d),
      sum_bits k (n / 2) (omega (arith, pow-suc 2 k)),
      ones_step n,
      bit_at_lowest n,
    )

module _ (key : Key) (ws : List ℕ) (r : AreInRange key ws) where
  -- the set frames of a bit word
  bits_of_word : (w : ℕ) → w < 8 * key.children → sum_by (bit_of key ws) (range_with_len (64 * w) 64) ≡ ones (bit_word_of key ws w)
  unfolding bit_of
  bits_of_word w h =
      range_from (bit_of key ws) (64 * w) 64
      ∙ range_same (bit_at (bit_word_of key ws w)) (λ i. bit_of key ws (64 * w + i)) 0 64
      (λ d l q.
      let word : (64 * w + d) / 64 ≡ w = omega arith in
      let bit : (64 * w + d) % 64 ≡ d = omega arith in
      ap (λ v. bit_at (bit_word_of key ws v) ((64 * w + d) % 64)) word ∙ ap (bit_at (bit_word_of key ws w)) bit)
      ∙ sum_bits 64 (bit_word_of key ws w) (r.bits w h)

  -- the set frames of bit words from w on
  bits_of_words : (w n : ℕ) → w + n ≤ 8 * key.children
      → sum_by (bit_of key ws) (range_with_len (64 * w) (64 * n)) ≡ sum_by ones (take n (drop (bits_place key w) ws))
  unfolding bits_place word_count bit_word_of
  bits_of_words w zero h = refl
  bits_of_words w (suc n) h =
      let rest : List ℕ = drop (bits_place key w) ws in
      let sizes : 64 * suc n ≡ 64 * n + 64 = omega arith in
      let starts : 64 * w + 64 * n ≡ 64 * (w + n) = omega arith in
      let e : suc n ≡ n + 1 = omega arith in
      let inside : n < length rest = omega (arith, length-drop (bits_place key w) ws, r.count) in
      let last : ℕ = get_or rest n 0 in
      let at : bits_place key w + n ≡ bits_place key (w + n) = omega arith in
      let word : last ≡ get_or ws (bits_place key (w + n)) 0 = rw get_or-drop (ap (λ j. get_or ws j 0) at) in
      omega (
        arith,
        ap (λ j. sum_by (bit_of key ws) (range_with_len (64 * w) j)) sizes,
        range_split (bit_of key ws) (64 * w) (64 * n) 64,
        ap (λ j. sum_by (bit_of key ws) (range_with_len j 64)) starts,
        bits_of_word (w + n) (omega arith),
        bits_of_words w n (omega arith),
        ap (λ j. sum_by ones (take j rest)) e,
        ap (sum_by ones) (take_more rest n 0 inside),
        sum_by-append ones (take n rest) (last ∷ []),
        sum_by-cons ones last [],
        ap ones word,
      )

  -- the set frames of a child, counted one by one
  pub bits_of_child : (c : ℕ) → c < key.children → sum_by (bit_of key ws) (range_with_len (512 * c) 512) ≡ set_of key ws c
  unfolding set_of
  bits_of_child c h =
      let e : 512 * c ≡ 64 * (8 * c) = omega arith in
      ap (λ j. sum_by (bit_of key ws) (range_with_len j 512)) e ∙ bits_of_words (8 * c) 8 (omega arith)

  bit_of-le : (x : ℕ) → bit_of key ws x ≤ 1
  unfolding bit_of
  bit_of-le x = omega (arith, bit_at-lt (bit_word_of key ws (x / 64)) (x % 64))

  bits_within-le : (a n : ℕ) → sum_by (bit_of key ws) (range_with_len a n) ≤ n
  bits_within-le a n =
      omega (arith, range_le (bit_of key ws) (λ _. 1) a n (λ d l r. bit_of-le d), range_ones a n)

  -- at most 512 frames of a child are set
  pub set_of-le : (c : ℕ) → c < key.children → set_of key ws c ≤ 512
  set_of-le c h = let P : ℕ → Type 0 = λ s. s ≤ 512 in subst P (bits_of_child c h) (bits_within-le (512 * c) 512)

  -- frames of a child without the flag, and of one with it
  held_within-bits : (c n : ℕ) → n ≤ 512 → huge_of ws c ≡ 0
      → held_within key ws (512 * c) n ≡ sum_by (bit_of key ws) (range_with_len (512 * c) n)
  unfolding held_within held_at
  held_within-bits c n few e =
      range_same (bit_of key ws) (held_at key ws) (512 * c) n (λ d l q. let child : d / 512 ≡ c = omega arith in
      omega (arith, e, ap (huge_of ws) child))

  held_within-huge : (c n : ℕ) → n ≤ 512 → huge_of ws c ≡ 1 → held_within key ws (512 * c) n ≡ n
  unfolding held_within held_at
  held_within-huge c n few e =
      range_same (λ _. 1) (held_at key ws) (512 * c) n (λ d l q. let child : d / 512 ≡ c = omega arith in
      omega (arith, e, ap (huge_of ws) child, bit_of-le d))
      ∙ range_ones (512 * c) n

  held_of-set : (c : ℕ) → huge_of ws c ≡ 0 → set_of key ws c ≡ held_of key ws c
  unfolding held_of
  held_of-set c e = omega (arith, e)

  held_of-huge : (c : ℕ) → c < key.children → huge_of ws c ≡ 1 → 512 ≡ held_of key ws c
  unfolding held_of
  held_of-huge c h e = omega (arith, e, set_of-le c h)

  -- the held frames of a child, counted one by one
  pub held_within-child : (c : ℕ) → c < key.children → held_within key ws (512 * c) 512 ≡ held_of key ws c
  held_within-child c h =
      ⊎_elim
      (λ e. held_within-bits c 512 (omega arith) e ∙ bits_of_child c h ∙ held_of-set c e)
      (λ ne. let one : huge_of ws c ≡ 1 = omega (arith, r.huge c h) in held_within-huge c 512 (omega arith) one ∙ held_of-huge c h one)
      (cases_eq (huge_of ws c) 0)

  held_within-split : (a m n : ℕ) → held_within key ws a (m + n) ≡ held_within key ws a m + held_within key ws (a + m) n
  unfolding held_within
  held_within-split a m n = range_split (held_at key ws) a m n

  held_within-none : (a : ℕ) → held_within key ws a 0 ≡ 0
  unfolding held_within
  held_within-none a = refl

  -- the held frames of children from c on
  pub held_within-children : (c n : ℕ) → c + n ≤ key.children
      → held_within key ws (512 * c) (512 * n) ≡ sum_by (held_of key ws) (range_with_len c n)
  held_within-children c zero h = held_within-none (512 * c)
  held_within-children c (suc n) h =
      let sizes : 512 * suc n ≡ 512 + 512 * n = omega arith in
      let starts : 512 * c + 512 ≡ 512 * (c + 1) = omega arith in
      omega (
        arith,
        ap (held_within key ws (512 * c)) sizes,
        held_within-split (512 * c) 512 (512 * n),
        ap (λ j. held_within key ws j (512 * n)) starts,
        held_within-child c (omega arith),
        held_within-children (c + 1) n (omega arith),
        sum_by-cons (held_of key ws) c (range_with_len (c + 1) n),
      )

  -- the held frames of a tree, counted one by one
  pub held_frames_of-tree : (t : ℕ) → t < tree_count key → held_frames_of key ws t ≡ held_in_tree key ws t
  unfolding held_in_tree
  held_frames_of-tree t h =
      let e : 4096 * t ≡ 512 * (8 * t) = omega arith in
      ap (λ j. held_within key ws j (size_of key t)) e ∙ held_within-children (8 * t) (children_in key t) (omega arith)

  -- the held frames of all memory, counted one by one
  pub held_frames-all : held_frames key ws ≡ sum_by (held_of key ws) (range_with_len 0 key.children)
  held_frames-all = held_within-children 0 key.children (omega arith)
