-- Held frames and clear blocks, counted from halves and from parts.
use Rattle.std.proofs.Common.{◌≡◌, ◌∙◌, below_more, ℕ, zero, suc, ◌+◌, ◌-◌, ◌*◌, ◌/◌, ◌%◌, ◌^◌, ◌<◌}
use Rattle.std.proofs.Common.{◌≤◌, List, length, get_or, map, replicate, set, min, max, refl, ap}
use Rattle.std.proofs.Common.{sym, arith}
use Rattle.std.specs.Prelude.{nat_eq, slice_index, if◌then◌else◌}
use Rattle.std.specs.List.{sum_by, range_with_len}
use Rattle.std.specs.Int.{bit_at}
use Rattle.std.proofs.lemmas.Bool.Decides.{nat_tests}
use Rattle.std.proofs.lemmas.Nat.{pow-add, pow_pos, shr-shr}
use Rattle.std.proofs.lemmas.Nat.Bits.{bit_at-lt}
use Rattle.std.proofs.lemmas.List.{ext_get_or, get_or-set_same, get_or-set_other, length-set}
use Rattle.std.proofs.lemmas.List.FromFn.{get_or-map-range_with_len, length-map-range_with_len}
use Rattle.std.proofs.lemmas.List.Sums.{sum_by-cons}
use Rattle.std.proofs.Math.Nat.{mul-div_cancel_left, mul-add-div, div-le_self}
use Rattle.frame_model.specs.declared.key.Key.{Key}
use Rattle.frame_model.specs.Key.{child_of, size_of, tree_count, frame_count}
use Rattle.frame_model.proofs.Zeros.{get_or-zeros}
use Rattle.frame_model.specs.Block.{block}
use Rattle.frame_words.specs.Words.{flag_in}
use Rattle.frame_words.proofs.LaneLemmas.{lane_in-lt}
use Rattle.frame_model.specs.Words.{entry_place, entry_of, huge_of, bit_of, bit_word_of}
use Rattle.frame_model.specs.Report.{held_at, held_within, clear_at, clear_within}
use Rattle.frame_model.proofs.Sums.{range_same}
use Rattle.frame_model.proofs.ReportLemmas.{range_split, range_from, range_le, range_ones}
use Rattle.frame_text.specs.ImageText.{child_bits}
use Rattle.frame_image.specs.Tally.{number_at, numbers_of, tree_number, memory_number, tree_numbers, tally_of}
use Rattle.frame_image.proofs.RebuildLemmas.{map_same}

-- Numbers.

plus_none : (k : ℕ) → 0 + k ≡ k
plus_none k = omega arith

times_add : (p k i : ℕ) → p * (k + i) ≡ p * k + p * i
times_add p k i = grind arith

-- a child in blocks of an order
parts : (o q : ℕ) → o < 10 → 2 ^ o * (2 ^ (9 - o) * q) ≡ 512 * q
parts o q h =
    let e : o + (9 - o) ≡ 9 = omega arith in
    let p : 2 ^ o * 2 ^ (9 - o) ≡ 512 = sym (pow-add 2 o (9 - o)) ∙ ap (λ k. 2 ^ k) e in
    assoc (2 ^ o) (2 ^ (9 - o)) q ∙ ap (λ k. k * q) p
  where
    assoc : (a b c : ℕ) → a * (b * c) ≡ a * b * c
    assoc a b c = grind arith

-- a count and what it leaves of one each
complement : (f : ℕ → ℕ) (a n : ℕ) → ((d : ℕ) → f d ≤ 1)
    → sum_by f (range_with_len a n) + sum_by (λ d. 1 - f d) (range_with_len a n) ≡ n
complement f a zero small = refl
complement f a (suc n) small =
    omega (
      arith,
      sum_by-cons f a (range_with_len (a + 1) n),
      sum_by-cons (λ d. 1 - f d) a (range_with_len (a + 1) n),
      small a,
      complement f (a + 1) n small,
    )

module _ (key : Key) (ws : List ℕ) where
  held_split : (a m n : ℕ) → held_within key ws a (m + n) ≡ held_within key ws a m + held_within key ws (a + m) n
  unfolding held_within
  held_split a m n = range_split (held_at key ws) a m n

  held_one : (x : ℕ) → held_within key ws x 1 ≡ held_at key ws x
  unfolding held_within
  held_one x = omega arith

  -- whether a block is clear, by the number of its held frames
  clear_told : (x o : ℕ) → clear_at key ws (block x o) ≡ (if nat_eq (held_within key ws x (2 ^ o)) 0 then 1 else 0)
  unfolding clear_at
  clear_told x o = refl

  clear_frame : (x : ℕ) → clear_at key ws (block x 0) ≡ 1 - held_at key ws x
  clear_frame x = clear_told x 0 ∙ ap (λ n. if nat_eq n 0 then 1 else 0) (held_one x) ∙ less (held_at key ws x)
    where
      less : (n : ℕ) → (if nat_eq n 0 then 1 else 0) ≡ 1 - n
      less n = grind (arith, nat_tests)

  -- a block is clear where both of its halves are
  pub clear_halves : (x o : ℕ) → clear_at key ws (block x (o + 1))
      ≡ min (clear_at key ws (block x o)) (clear_at key ws (block (x + 2 ^ o) o))
  clear_halves x o =
      let size : 2 ^ (o + 1) ≡ 2 ^ o + 2 ^ o = omega (arith, pow-add 2 o 1) in
      let sum : held_within key ws x (2 ^ (o + 1)) ≡ held_within key ws x (2 ^ o) + held_within key ws (x + 2 ^ o) (2 ^ o) =
      ap (held_within key ws x) size ∙ held_split x (2 ^ o) (2 ^ o) in
      clear_told x (o + 1) ∙ ap (λ n. if nat_eq n 0 then 1 else 0) sum
      ∙ both (held_within key ws x (2 ^ o)) (held_within key ws (x + 2 ^ o) (2 ^ o))
      ∙ sym (ap (λ n. min n (clear_at key ws (block (x + 2 ^ o) o))) (clear_told x o)
      ∙ ap (λ n. min (if nat_eq (held_within key ws x (2 ^ o)) 0 then 1 else 0) n) (clear_told (x + 2 ^ o) o))
    where
      both : (m n : ℕ) → (if nat_eq (m + n) 0 then 1 else 0) ≡ min (if nat_eq m 0 then 1 else 0) (if nat_eq n 0 then 1 else 0)
      both m n = grind (arith, nat_tests)

  -- a frame of a child, by its bit and the flag
  pub clear_child : (c i : ℕ) → i < 512
      → 1 - max (bit_at (slice_index (child_bits key ws c) (i / 64)) (i % 64)) (huge_of ws c) ≡ clear_at key ws (block (512 * c + i) 0)
  unfolding held_at bit_of child_bits
  clear_child c i h =
      let child : (512 * c + i) / 512 ≡ c = omega arith in
      let word : slice_index (map (bit_word_of key ws) (range_with_len (8 * c) 8)) (i / 64) ≡ bit_word_of key ws ((512 * c + i) / 64) =
      get_or-map-range_with_len (bit_word_of key ws) (8 * c) 8 (i / 64) ((512 * c + i) / 64) 0 (omega arith) (omega arith) in
      let place : i % 64 ≡ (512 * c + i) % 64 = omega arith in
      let bit : bit_at (slice_index (map (bit_word_of key ws) (range_with_len (8 * c) 8)) (i / 64)) (i % 64) ≡ bit_of key ws (512 * c + i) =
      ap (λ n. bit_at n (i % 64)) word ∙ ap (bit_at (bit_word_of key ws ((512 * c + i) / 64))) place in
      sym (clear_frame (512 * c + i) ∙ ap (λ n. 1 - max (bit_of key ws (512 * c + i)) (huge_of ws n)) child
      ∙ ap (λ n. 1 - max n (huge_of ws c)) (sym bit))

  -- all frames are held or clear
  huge_of-le : (c : ℕ) → huge_of ws c ≤ 1
  unfolding huge_of entry_of flag_in
  huge_of-le c = omega (arith, lane_in-lt (slice_index ws (entry_place c)) c)

  held_at-le : (x : ℕ) → held_at key ws x ≤ 1
  unfolding held_at bit_of
  held_at-le x = omega (arith, huge_of-le (child_of x), bit_at-lt (bit_word_of key ws (x / 64)) (x % 64))

  held_within-le : (from n : ℕ) → held_within key ws from n ≤ n
  unfolding held_within
  held_within-le from n = omega (arith, range_le (held_at key ws) (λ _. 1) from n (λ d l h. held_at-le d), range_ones from n)

  pub held_clear : (from n : ℕ) → held_within key ws from n + clear_within key ws 0 from n ≡ n
  unfolding held_within clear_within
  held_clear from n =
      let whole : n / 1 ≡ n = omega arith in
      let each : (i : ℕ) → clear_at key ws (block (from + 2 ^ 0 * i) 0) ≡ 1 - held_at key ws (from + i) =
      λ i. let e : from + 2 ^ 0 * i ≡ from + i = omega arith in ap (λ x. clear_at key ws (block x 0)) e ∙ clear_frame (from + i) in
      omega (
        arith,
        range_from (held_at key ws) from n,
        ap (λ m. sum_by (λ i. clear_at key ws (block (from + 2 ^ 0 * i) 0)) (range_with_len 0 m)) whole,
        range_same (λ i. 1 - held_at key ws (from + i)) (λ i. clear_at key ws (block (from + 2 ^ 0 * i) 0)) 0 n (λ d l h. each d),
        complement (λ i. held_at key ws (from + i)) 0 n (λ d. held_at-le (from + d)),
      )

  -- one frame more is told
  pub told_more : (c n : ℕ) (told : List ℕ) (t : ℕ) → n < length told
      → ((i : ℕ) → i < n → get_or told i 0 ≡ clear_at key ws (block (512 * c + i) 0))
      → t ≡ clear_at key ws (block (512 * c + n) 0)
      → (i : ℕ) → i < n + 1 → get_or (set told n t) i 0 ≡ clear_at key ws (block (512 * c + i) 0)
  told_more c n told t room before here =
      below_more (λ i. get_or (set told n t) i 0 ≡ clear_at key ws (block (512 * c + i) 0)) n
      (λ i h. get_or-set_other told n i t 0 (λ e. omega arith) ∙ before i h) (get_or-set_same told n t 0 room ∙ here)

  clear_within_is : (o from n : ℕ) → clear_within key ws o from n
      ≡ sum_by (λ i. clear_at key ws (block (from + 2 ^ o * i) o)) (range_with_len 0 (n / 2 ^ o))
  unfolding clear_within
  clear_within_is o from n = refl

  -- the sum of what is told of blocks counts the clear ones
  pub told_sum : (from n o blocks : ℕ) (told : List ℕ) → blocks ≡ n / 2 ^ o
      → ((i : ℕ) → i < blocks → get_or told i 0 ≡ clear_at key ws (block (from + 2 ^ o * i) o))
      → sum_by (λ i. get_or told i 0) (range_with_len 0 blocks) ≡ clear_within key ws o from n
  told_sum from n o blocks told e all =
      range_same (λ i. clear_at key ws (block (from + 2 ^ o * i) o)) (λ i. get_or told i 0) 0 blocks (λ d l h. all d (omega arith))
      ∙ ap (λ m. sum_by (λ i. clear_at key ws (block (from + 2 ^ o * i) o)) (range_with_len 0 m)) e
      ∙ sym (clear_within_is o from n)

  -- from halves to wholes
  pub told_halves : (from o blocks : ℕ) (told new : List ℕ)
      → ((i : ℕ) → i < 2 * blocks → get_or told i 0 ≡ clear_at key ws (block (from + 2 ^ o * i) o))
      → ((i : ℕ) → i < blocks → get_or new i 0 ≡ min (get_or told (2 * i) 0) (get_or told (2 * i + 1) 0))
      → (i : ℕ) → i < blocks → get_or new i 0 ≡ clear_at key ws (block (from + 2 ^ (o + 1) * i) (o + 1))
  told_halves from o blocks told new old joined i h =
      let left : from + 2 ^ o * (2 * i) ≡ from + 2 ^ (o + 1) * i = omega (arith, ap (λ p. p * i) (pow-add 2 o 1), double (2 ^ o) i) in
      let right : from + 2 ^ o * (2 * i + 1) ≡ from + 2 ^ (o + 1) * i + 2 ^ o = omega (arith, left, step (2 ^ o) i) in
      joined i h
      ∙ ap (λ n. min n (get_or told (2 * i + 1) 0)) (old (2 * i) (omega arith) ∙ ap (λ x. clear_at key ws (block x o)) left)
      ∙ ap (λ n. min (clear_at key ws (block (from + 2 ^ (o + 1) * i) o)) n)
      (old (2 * i + 1) (omega arith) ∙ ap (λ x. clear_at key ws (block x o)) right)
      ∙ sym (clear_halves (from + 2 ^ (o + 1) * i) o)
    where
      double : (p i : ℕ) → p * (2 * i) ≡ p * 2 * i
      double p i = grind arith

      step : (p i : ℕ) → p * (2 * i + 1) ≡ p * (2 * i) + p
      step p i = grind arith

  number_zero : (from n free : ℕ) → free ≡ clear_within key ws 0 from n → n - free ≡ number_at key ws from n 0
  unfolding number_at
  number_zero from n free e = omega (arith, held_clear from n)

  number_one : (from n free : ℕ) → free ≡ clear_within key ws 0 from n → free ≡ number_at key ws from n 1
  unfolding number_at
  number_one from n free e = omega (arith, held_clear from n)

  number_blocks : (from n o : ℕ) → clear_within key ws o from n ≡ number_at key ws from n (suc (suc o))
  unfolding number_at
  number_blocks from n o = refl

  -- so many numbers that are those are all
  pub numbers_all : (numbers : List ℕ) (from n : ℕ) → length numbers ≡ 12
      → ((i : ℕ) → i < 12 → get_or numbers i 0 ≡ number_at key ws from n i) → numbers ≡ numbers_of key ws from n
  unfolding numbers_of
  numbers_all numbers from n size each =
      ext_get_or 0 _ _ (size ∙ sym (length-map-range_with_len (number_at key ws from n) 0 12))
      (λ i h. each i (omega (arith, h, size)) ∙ sym (get_or-map-range_with_len (number_at key ws from n) 0 12 i i 0
      (omega (arith, h, size)) (omega arith)))

  -- the numbers, once the clear blocks of all orders are there
  pub numbers_are : (numbers : List ℕ) (from n free : ℕ) → length numbers ≡ 12
      → ((o : ℕ) → o < 10 → get_or numbers (2 + o) 0 ≡ clear_within key ws o from n)
      → free ≡ get_or numbers 2 0
      → set (set numbers 1 free) 0 (n - free) ≡ numbers_of key ws from n
  numbers_are numbers from n free size counted e =
      numbers_all _ from n (length-set (set numbers 1 free) 0 (n - free) ∙ length-set numbers 1 free ∙ size) at
    where
      first : free ≡ clear_within key ws 0 from n
      first = e ∙ counted 0 (omega arith)

      at : (i : ℕ) → i < 12 → get_or (set (set numbers 1 free) 0 (n - free)) i 0 ≡ number_at key ws from n i
      at zero h = get_or-set_same (set numbers 1 free) 0 (n - free) 0 (omega (arith, length-set numbers 1 free))
          ∙ number_zero from n free first
      at (suc zero) h =
          get_or-set_other (set numbers 1 free) 0 1 (n - free) 0 (λ z. omega arith)
          ∙ get_or-set_same numbers 1 free 0 (omega arith) ∙ number_one from n free first
      at (suc (suc o)) h =
          get_or-set_other (set numbers 1 free) 0 (suc (suc o)) (n - free) 0 (λ z. omega arith)
          ∙ get_or-set_other numbers 1 (suc (suc o)) free 0 (λ z. omega arith)
          ∙ ap (λ p. get_or numbers p 0) (omega arith) ∙ counted o (omega arith) ∙ number_blocks from n o

  -- one frame or more of each number
  pub free_few : (from n free : ℕ) → free ≡ clear_within key ws 0 from n → free ≤ n
  free_few from n free e = omega (arith, held_clear from n)

  -- Two runs of frames, the first of whole children.

  clear_split : (o from m n k : ℕ) → m ≡ 2 ^ o * k
      → clear_within key ws o from (m + n) ≡ clear_within key ws o from m + clear_within key ws o (from + m) n
  unfolding clear_within
  clear_split o from m n k e =
      let p : ℕ = 2 ^ o in
      let f : ℕ → ℕ = λ i. clear_at key ws (block (from + p * i) o) in
      let g : ℕ → ℕ = λ i. clear_at key ws (block (from + m + p * i) o) in
      let first : m / p ≡ k = ap (λ a. a / p) e ∙ mul-div_cancel_left k (pow_pos o) in
      let all : (m + n) / p ≡ k + n / p = ap (λ a. (a + n) / p) e ∙ mul-add-div (pow_pos o) k n in
      let place : (i : ℕ) → from + m + p * i ≡ from + p * (k + i) = λ i. omega (arith, e, times_add p k i) in
      omega (
        arith,
        ap (λ a. sum_by f (range_with_len 0 a)) all,
        range_split f 0 k (n / p),
        ap (λ a. sum_by f (range_with_len a (n / p))) (plus_none k),
        range_from f k (n / p),
        range_same (λ i. f (k + i)) g 0 (n / p) (λ d l h. ap (λ x. clear_at key ws (block x o)) (place d)),
        ap (λ a. sum_by f (range_with_len 0 a)) first,
      )

  clear_within-le : (o from n : ℕ) → clear_within key ws o from n ≤ n
  unfolding clear_within clear_at
  clear_within-le o from n =
      omega (
        arith,
        range_le (λ i. clear_at key ws (block (from + 2 ^ o * i) o)) (λ _. 1) 0 (n / 2 ^ o)
            (λ d l h. one (held_within key ws (from + 2 ^ o * d) (2 ^ o))),
        range_ones 0 (n / 2 ^ o),
        div-le_self n (2 ^ o),
      )
    where
      one : (h : ℕ) → (if nat_eq h 0 then 1 else 0) ≤ 1
      one h = grind (arith, nat_tests)

  -- none of the numbers exceeds the frames
  pub number_at-le : (from n i : ℕ) → number_at key ws from n i ≤ n
  unfolding number_at
  number_at-le from n zero = held_within-le from n
  number_at-le from n (suc zero) = omega arith
  number_at-le from n (suc (suc o)) = clear_within-le o from n

  -- each number of two runs is the sum of theirs
  pub number_split : (from m n q i : ℕ) → m ≡ 512 * q → i < 12
      → number_at key ws from (m + n) i ≡ number_at key ws from m i + number_at key ws (from + m) n i
  unfolding number_at
  number_split from m n q zero e h = held_split from m n
  number_split from m n q (suc zero) e h =
      omega (arith, held_split from m n, held_within-le from m, held_within-le (from + m) n)
  number_split from m n q (suc (suc o)) e h =
      clear_split o from m n (2 ^ (9 - o) * q) (e ∙ sym (parts o q (omega arith)))

  pub numbers_each : (from n i : ℕ) → i < 12 → get_or (numbers_of key ws from n) i 0 ≡ number_at key ws from n i
  unfolding numbers_of
  numbers_each from n i h = get_or-map-range_with_len (number_at key ws from n) 0 12 i i 0 h (omega arith)

  -- no frames, nothing
  pub number_none : (from i : ℕ) → number_at key ws from 0 i ≡ 0
  number_none from i = omega (arith, number_at-le from 0 i)

  module _ (from m n k at q : ℕ) (whole : m ≡ 512 * q) (place : at ≡ from + m) (sum : k ≡ m + n)
      (old more : List ℕ) (so_far : (i : ℕ) → i < 12 → get_or old i 0 ≡ number_at key ws from m i)
      (next : more ≡ numbers_of key ws at n) where
    sum_at : (i : ℕ) → i < 12 → get_or old i 0 + get_or more i 0 ≡ number_at key ws from k i
    sum_at i h =
        omega (
          arith,
          so_far i h,
          ap (λ (l : List ℕ). get_or l i 0) next,
          numbers_each at n i h,
          ap (λ a. number_at key ws a n i) place,
          number_split from m n q i whole h,
          ap (λ a. number_at key ws from a i) sum,
        )

    -- numbers with those of one run more
    pub numbers_more : (new : List ℕ) → ((i : ℕ) → i < 12 → get_or new i 0 ≡ get_or old i 0 + get_or more i 0)
        → (i : ℕ) → i < 12 → get_or new i 0 ≡ number_at key ws from k i
    numbers_more new added i h = added i h ∙ sum_at i h

    -- they stay small
    pub numbers_fit : k ≤ 2 ^ 21 → (i : ℕ) → i < 12 → get_or old i 0 + get_or more i 0 < 2 ^ 32
    numbers_fit few i h = omega (arith, sum_at i h, number_at-le from k i)

  -- numbers of no frames
  pub zero_numbers : (from n i : ℕ) → n ≡ 0 → get_or (replicate {A = ℕ} 12 0) i 0 ≡ number_at key ws from n i
  zero_numbers from n i e = get_or-zeros 12 i ∙ sym (ap (λ a. number_at key ws from a i) e ∙ number_none from i)

  -- the numbers of a tree are those of its frames
  tree_at : (t i : ℕ) → tree_number key ws t i ≡ number_at key ws (4096 * t) (size_of key t) i
  unfolding tree_number number_at
  tree_at t zero = refl
  tree_at t (suc zero) = refl
  tree_at t (suc (suc o)) = refl

  pub tree_is : (t : ℕ) → tree_numbers key ws t ≡ numbers_of key ws (4096 * t) (size_of key t)
  unfolding tree_numbers numbers_of
  tree_is t = map_same (tree_number key ws t) (number_at key ws (4096 * t) (size_of key t)) 0 12 (λ i l h. tree_at t i)

  -- and those of all memory are those of all frames
  memory_at : (i : ℕ) → memory_number key ws i ≡ number_at key ws 0 (frame_count key) i
  unfolding memory_number number_at
  memory_at zero = refl
  memory_at (suc zero) = refl
  memory_at (suc (suc o)) = refl

  memory_is : map (memory_number key ws) (range_with_len 0 12) ≡ numbers_of key ws 0 (frame_count key)
  unfolding numbers_of
  memory_is = map_same (memory_number key ws) (number_at key ws 0 (frame_count key)) 0 12 (λ i l h. memory_at i)

  pub tree_all : (t : ℕ) (numbers : List ℕ) (n : ℕ) → n ≡ size_of key t → length numbers ≡ 12
      → ((i : ℕ) → i < 12 → get_or numbers i 0 ≡ number_at key ws (512 * (8 * t)) n i) → numbers ≡ tree_numbers key ws t
  tree_all t numbers n e size each =
      let place : 512 * (8 * t) ≡ 4096 * t = omega arith in
      numbers_all numbers (512 * (8 * t)) n size each ∙ ap (λ a. numbers_of key ws a n) place ∙ ap (numbers_of key ws (4096 * t)) e
      ∙ sym (tree_is t)

  pub tally_is : (trees : List (List ℕ)) (all : List ℕ) (n : ℕ) → n ≡ frame_count key
      → trees ≡ map (tree_numbers key ws) (range_with_len 0 (tree_count key)) → length all ≡ 12
      → ((i : ℕ) → i < 12 → get_or all i 0 ≡ number_at key ws 0 n i)
      → record { trees = trees; all = all } ≡ tally_of key ws
  unfolding tally_of
  tally_is trees all n e is size each =
      rw (is, numbers_all all 0 n size each, e, memory_is) refl

-- half as many blocks
pub halved : (blocks o : ℕ) → blocks ≡ 512 / 2 ^ o → blocks / 2 ≡ 512 / 2 ^ (o + 1)
halved blocks o e = ap (λ n. n / 2) e ∙ shr-shr 512 o 1

-- numbers of orders below one, and one more
pub counted_more : (f : ℕ → ℕ) (numbers : List ℕ) (o n : ℕ) → 2 + o < length numbers
    → ((p : ℕ) → p < o → get_or numbers (2 + p) 0 ≡ f p) → n ≡ f o
    → (p : ℕ) → p < o + 1 → get_or (set numbers (2 + o) n) (2 + p) 0 ≡ f p
counted_more f numbers o n room before here =
    below_more (λ p. get_or (set numbers (2 + o) n) (2 + p) 0 ≡ f p) o
    (λ p h. get_or-set_other numbers (2 + o) (2 + p) n 0 (λ z. omega arith) ∙ before p h)
    (get_or-set_same numbers (2 + o) n 0 room ∙ here)
