-- How many frames of a child are set, by its bits: one, none, or all.
use Rattle.std.proofs.Common.{◌≡◌, ℕ, zero, suc, ◌+◌, ◌-◌, ◌*◌, ◌/◌, ◌%◌, ◌^◌, ◌<◌, ◌≤◌, List, [], ◌∷◌, length, get_or, take, drop, refl}
use Rattle.std.proofs.Common.{ap, ◌∙◌, arith, length-take, length-drop, get_or-take, get_or-drop}
use Rattle.std.specs.List.{sum_by, All}
use Rattle.std.specs.Int.{bit_at}
use Rattle.std.specs.Int.Bits.{bit_or}
use Rattle.std.specs.Int.Count.{ones, ones_step}
use Rattle.std.proofs.lemmas.Nat.{or_lt}
use Rattle.std.proofs.lemmas.Nat.Bits.{bit_at_or, bit_at_lowest, bit_at-suc, bit_at-zero, bit_at-lt, same_from_bits_below}
use Rattle.std.proofs.lemmas.List.Sums.{sum_by-cons, sum_by-le, get_or-le-sum_by}
use Rattle.std.proofs.lemmas.List.Elements.{All-head, All-tail, All-from_get_or}
use Rattle.frame_model.specs.declared.key.Key.{Key}
use Rattle.frame_model.specs.Key.{frame_count, child_of}
use Rattle.frame_model.specs.Words.{bits_place, word_count, bit_word_of, bit_of, set_of, AreInRange}
use Rattle.frame_model.proofs.Bits.{ones_zero, ones_run, bit_at_run_inside}
use Rattle.frame_model.proofs.Steps.Shared.{bit_is}

pub bit-le-ones : (j n : ℕ) → bit_at n j ≤ ones n
bit-le-ones zero n = omega (arith, bit_at_lowest n, ones_step n)
bit-le-ones (suc j) n = omega (arith, bit_at-suc n j, bit-le-ones j (n / 2), ones_step n)

sum_full : (xs : List ℕ) → All (λ x. 64 ≤ ones x) xs → 64 * length xs ≤ sum_by ones xs
sum_full [] all = omega arith
sum_full (x ∷ xs) all =
    let others : 64 * length xs ≤ sum_by ones xs = sum_full xs (All-tail (λ y. 64 ≤ ones y) x xs all) in
    let first : 64 ≤ ones x = All-head (λ y. 64 ≤ ones y) x xs all in
    omega (arith, sum_by-cons ones x xs, others, first)

-- the eight bit words of a child
eight : Key → List ℕ → ℕ → List ℕ
eight key ws c = take 8 (drop (bits_place key (8 * c)) ws)

set_is : (key : Key) (ws : List ℕ) (c : ℕ) → set_of key ws c ≡ sum_by ones (eight key ws c)
unfolding set_of eight
set_is key ws c = refl

next_place : (key : Key) (k i : ℕ) → bits_place key k + i ≡ bits_place key (k + i)
unfolding bits_place
next_place key k i = omega arith

eight_at : (key : Key) (ws : List ℕ) (c i : ℕ) → i < 8
    → get_or (eight key ws c) i 0 ≡ bit_word_of key ws (8 * c + i)
unfolding eight bit_word_of
eight_at key ws c i h = rw (get_or-take, get_or-drop) (ap (λ p. get_or ws p 0) (next_place key (8 * c) i))

room : (key : Key) (ws : List ℕ) (c : ℕ) → length ws ≡ word_count key → c < key.children
    → bits_place key (8 * c) + 8 ≤ length ws
unfolding bits_place word_count
room key ws c l h = omega (arith, l)

eight_length : (key : Key) (ws : List ℕ) (c : ℕ) → length ws ≡ word_count key → c < key.children
    → length (eight key ws c) ≡ 8
unfolding eight
eight_length key ws c l h = simp (length-take, length-drop) (omega (arith, room key ws c l h))

sum_more : (i : ℕ) (ns : List ℕ)
    → sum_by ones (take (suc i) ns) ≡ sum_by ones (take i ns) + ones (get_or ns i 0)
sum_more zero [] = omega (arith, ones_zero)
sum_more (suc i) [] = omega (arith, ones_zero)
sum_more zero (n ∷ ns) = omega (arith, sum_by-cons ones n [])
sum_more (suc i) (n ∷ ns) =
    omega (arith, sum_by-cons ones n (take (suc i) ns), sum_by-cons ones n (take i ns), sum_more i ns)

-- the set frames of one word more
pub set_more : (key : Key) (ws : List ℕ) (c i : ℕ)
    → sum_by ones (take (i + 1) (drop (bits_place key (8 * c)) ws))
    ≡ sum_by ones (take i (drop (bits_place key (8 * c)) ws)) + ones (bit_word_of key ws (8 * c + i))
unfolding bit_word_of
set_more key ws c i =
    let from : ℕ = bits_place key (8 * c) in
    let next : i + 1 ≡ suc i = omega arith in
    let got : get_or (drop from ws) i 0 ≡ get_or ws (from + i) 0 = rw get_or-drop refl in
    let there : get_or ws (from + i) 0 ≡ get_or ws (bits_place key (8 * c + i)) 0 = ap (λ p. get_or ws p 0) (next_place key (8 * c) i) in
    ap (λ j. sum_by ones (take j (drop from ws))) next ∙ sum_more i (drop from ws)
    ∙ ap (λ n. sum_by ones (take i (drop from ws)) + ones n) (got ∙ there)

-- a set frame is one of its child's
pub bit-le-set : (key : Key) (ws : List ℕ) (x : ℕ) → length ws ≡ word_count key → x < frame_count key
    → bit_of key ws x ≤ set_of key ws (child_of x)
bit-le-set key ws x l h =
    let c : ℕ = x / 512 in
    let i : ℕ = x / 64 - 8 * c in
    let below : i < 8 = omega arith in
    let here : x / 64 ≡ 8 * c + i = omega arith in
    let child : c < key.children = omega arith in
    omega (
      arith,
      set_is key ws c,
      get_or-le-sum_by ones (eight key ws c) i 0 (omega (arith, eight_length key ws c l child)),
      ap ones (eight_at key ws c i below),
      bit_is key ws x (8 * c + i) here,
      bit-le-ones (x % 64) (bit_word_of key ws (8 * c + i)),
    )

-- a word with none of its bits, and one with all of them
pub word_none : (key : Key) (ws : List ℕ) (k : ℕ) → bit_word_of key ws k < 2 ^ 64
    → ((x : ℕ) → x / 64 ≡ k → bit_of key ws x ≡ 0) → bit_word_of key ws k ≡ 0
word_none key ws k f none =
    same_from_bits_below 64 (bit_word_of key ws k) 0 f (omega arith)
    (λ i h.
    let x : ℕ = 64 * k + i in
    let here : x / 64 ≡ k = omega arith in
    let bit : x % 64 ≡ i = omega arith in
    omega (arith, none x here, bit_is key ws x k here, ap (bit_at (bit_word_of key ws k)) bit, bit_at-zero i))

word_full : (key : Key) (ws : List ℕ) (k : ℕ) → bit_word_of key ws k < 2 ^ 64
    → ((x : ℕ) → x / 64 ≡ k → bit_of key ws x ≡ 1) → bit_word_of key ws k ≡ 2 ^ 64 - 1
word_full key ws k f all =
    same_from_bits_below 64 (bit_word_of key ws k) (2 ^ 64 - 1) f (omega arith)
    (λ i h.
    let x : ℕ = 64 * k + i in
    let here : x / 64 ≡ k = omega arith in
    let bit : x % 64 ≡ i = omega arith in
    omega (
      arith,
      all x here,
      bit_is key ws x k here,
      ap (bit_at (bit_word_of key ws k)) bit,
      bit_at_run_inside 0 64 i (omega arith) h,
    ))

pub ones_full : ones (2 ^ 64 - 1) ≡ 64
ones_full = ones_run 0 64

pub bit_at_full : (i : ℕ) → i < 64 → bit_at (2 ^ 64 - 1) i ≡ 1
bit_at_full i h = bit_at_run_inside 0 64 i (omega arith) h

-- all bits are set
pub or_full : (n : ℕ) → n < 2 ^ 64 → bit_or n (2 ^ 64 - 1) ≡ 2 ^ 64 - 1
or_full n f =
    same_from_bits_below 64 (bit_or n (2 ^ 64 - 1)) (2 ^ 64 - 1) (or_lt 64 n (2 ^ 64 - 1) f (omega arith)) (omega arith)
    (λ i h. omega (arith, bit_at_or n (2 ^ 64 - 1) i, bit_at_full i h, bit_at-lt n i))

-- a child of which no frame is set
pub set_none : (key : Key) (ws : List ℕ) (c : ℕ) → AreInRange key ws → c < key.children
    → ((x : ℕ) → child_of x ≡ c → bit_of key ws x ≡ 0) → set_of key ws c ≡ 0
set_none key ws c r h none =
    let all : All (λ n. ones n ≤ 0) (eight key ws c) =
    All-from_get_or (λ n. ones n ≤ 0) (eight key ws c) 0
    (λ i q.
    let short : i < 8 = omega (arith, eight_length key ws c r.count h) in
    omega (
      arith,
      ap ones (eight_at key ws c i short),
      ap ones (word_none key ws (8 * c + i) (r.bits (8 * c + i) (omega arith)) (λ x e. none x (omega arith))),
      ones_zero,
    )) in
    omega (arith, set_is key ws c, sum_by-le ones 0 (eight key ws c) all)

-- a child of which each frame is set
pub set_full : (key : Key) (ws : List ℕ) (c : ℕ) → AreInRange key ws → c < key.children
    → ((x : ℕ) → child_of x ≡ c → bit_of key ws x ≡ 1) → 512 ≤ set_of key ws c
set_full key ws c r h full =
    let all : All (λ n. 64 ≤ ones n) (eight key ws c) =
    All-from_get_or (λ n. 64 ≤ ones n) (eight key ws c) 0
    (λ i q.
    let short : i < 8 = omega (arith, eight_length key ws c r.count h) in
    omega (
      arith,
      ap ones (eight_at key ws c i short),
      ap ones (word_full key ws (8 * c + i) (r.bits (8 * c + i) (omega arith)) (λ x e. full x (omega arith))),
      ones_full,
    )) in
    omega (arith, set_is key ws c, sum_full (eight key ws c) all, eight_length key ws c r.count h)
