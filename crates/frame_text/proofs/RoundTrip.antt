-- What is written of an image is read back as that image.
use Rattle.std.proofs.Common.{◌≡◌, ◌∙◌, ⊎_elim, ℕ, ◌+◌, ◌-◌, ◌*◌, ◌/◌, ◌%◌, ◌^◌, ◌<◌}
use Rattle.std.proofs.Common.{List, [], length, map, true, false, Option, Some, None, refl, ap}
use Rattle.std.proofs.Common.{arith}
use Rattle.std.specs.Prelude.{nat_eq, nat_lt, nat_le, ◌==◌, codes, decimal, slice_index}
use Rattle.std.specs.List.{range_with_len}
use Rattle.std.specs.Int.{bit_at}
use Rattle.std.specs.Option.{ForSome}
use Rattle.std.proofs.lemmas.Bool.{cases_lt}
use Rattle.std.proofs.lemmas.Bool.Decides.{nat_tests}
use Rattle.std.proofs.lemmas.List.FromFn.{get_or-map-range_with_len, length-map-range_with_len}
use Rattle.std.proofs.lemmas.Fmt.{decimal_nonempty}
use Rattle.frame_words.specs.Words.{entry_word, local_word}
use Rattle.frame_model.specs.declared.key.Key.{Key}
use Rattle.frame_model.specs.Key.{tree_count, size_of, AreSizes}
use Rattle.frame_model.specs.Words.{free_of, huge_of, tree_free_of, reserved_of, rest_of, bit_word_of, bit_of, with_tree, with_local}
use Rattle.frame_core.specs.Image.{IsImage, FitsTree, with_child}
use Rattle.frame_text.specs.BitWords.{words_in, hex_text}
use Rattle.frame_text.specs.ImageText.{frames_in, keeps_end, all_set_from, child_said, child_bits}
use Rattle.frame_text.specs.ImageText.{child_with, child_row, is_named, fields_with, part_with}
use Rattle.frame_text.specs.ImageText.{tree_said, tree_with, tree_row, reservation_said, rest_said}
use Rattle.frame_text.specs.ImageText.{core_with, rest_row, core_row}
use Rattle.frame_text.proofs.BitWordLemmas.{words_in-hex_text}
use Rattle.frame_text.proofs.NumberLemmas.{number_below-decimal, spells-decimal, flag_said-decimal, flag_of_test}
use Rattle.frame_text.proofs.Ranges.{set_from}

-- Children.

module _ (key : Key) (ws : List ℕ) (image : IsImage key ws) (sizes : AreSizes key) where
  module _ (c : ℕ) (h : c < key.children) where
    bits : List ℕ
    bits = child_bits key ws c

    child_words_read : words_in (hex_text (child_bits key ws c)) ≡ Some (child_bits key ws c)
    unfolding child_bits
    child_words_read =
        words_in-hex_text _ (length-map-range_with_len (bit_word_of key ws) (8 * c) 8)
        (λ k few. rw (get_or-map-range_with_len (bit_word_of key ws) (8 * c) 8 k (8 * c + k) 0 few refl)
        (image.in_range.bits (8 * c + k) (omega arith)))

    bit_here : (d : ℕ) → d < 512 → bit_at (slice_index (child_bits key ws c) (d / 64)) (d % 64) ≡ bit_of key ws (512 * c + d)
    unfolding child_bits bit_of
    bit_here d few =
        let word : slice_index (map (bit_word_of key ws) (range_with_len (8 * c) 8)) (d / 64) ≡ bit_word_of key ws ((512 * c + d) / 64) =
        get_or-map-range_with_len (bit_word_of key ws) (8 * c) 8 (d / 64) ((512 * c + d) / 64) 0 (omega arith) (omega arith) in
        let bit : d % 64 ≡ (512 * c + d) % 64 = omega arith in
        ap (λ n. bit_at n (d % 64)) word ∙ ap (bit_at (bit_word_of key ws ((512 * c + d) / 64))) bit

    end_kept : keeps_end (frames_in key c) (nat_eq (huge_of ws c) 1) (child_bits key ws c) ≡ true
    unfolding keeps_end
    end_kept =
        ⊎_elim
        (λ (cut : key.frames < 512 * c + 512).
        let few : nat_le 512 (frames_in key c) ≡ false = grind (arith, nat_tests) in
        let down : nat_eq (huge_of ws c) 1 ≡ false = let e = image.cut c h (omega (arith, cut)) in grind (arith, nat_tests) in
        let set : all_set_from (frames_in key c) (child_bits key ws c) ≡ true =
        set_from (frames_in key c) (child_bits key ws c) (omega arith)
        (λ d l q. bit_here d q ∙ image.past_end (512 * c + d) (omega arith) (omega arith)) in
        rw (few, down, set) refl)
        (λ whole.
        let full : nat_le 512 (frames_in key c) ≡ true = grind (arith, nat_tests) in rw full refl)
        (cases_lt key.frames (512 * c + 512))

    child_told : child_said (frames_in key c) (decimal (free_of ws c)) (decimal (huge_of ws c)) (hex_text (child_bits key ws c))
        ≡ Some (free_of ws c, nat_eq (huge_of ws c) 1, child_bits key ws c)
    unfolding child_said
    child_told =
        let free = image.in_range.free c h in
        let huge = image.in_range.huge c h in
        rw (
          number_below-decimal 513 (free_of ws c) (omega arith) (omega arith),
          flag_said-decimal (huge_of ws c) (omega arith),
          child_words_read,
          end_kept,
        ) refl

    child_named : is_named (codes "child") c (codes "child") (decimal c) ≡ true
    unfolding is_named
    child_named = let few = sizes.few_children in rw (spells-decimal c (omega arith)) refl

    child_put : (words : List ℕ)
        → child_with key c words (codes "child") (decimal c) (decimal (free_of ws c)) (decimal (huge_of ws c))
        (hex_text (child_bits key ws c))
        ≡ Some (with_child key words c (entry_word (free_of ws c) (huge_of ws c)) (child_bits key ws c))
    unfolding child_with
    child_put words =
        rw (child_named, child_told, flag_of_test (huge_of ws c) (image.in_range.huge c h)) refl

    -- the record of a child says the child
    pub child_part : (words : List ℕ)
        → part_with key c words (child_row key ws c)
        ≡ Some (with_child key words c (entry_word (free_of ws c) (huge_of ws c)) (child_bits key ws c))
    unfolding child_row part_with fields_with
    child_part words = let low : nat_lt c key.children ≡ true = grind (arith, nat_tests) in rw low (child_put words)

  -- Trees.

  module _ (t : ℕ) (h : t < tree_count key) where
    tree_told : tree_said (size_of key t) (decimal (tree_free_of key ws t)) (decimal (reserved_of key ws t))
        ≡ Some (tree_free_of key ws t, nat_eq (reserved_of key ws t) 1)
    unfolding tree_said
    tree_told =
        let free = image.trees t h in
        let up = image.in_range.reserved t h in
        rw (
          number_below-decimal (size_of key t + 1) (tree_free_of key ws t) (omega arith) (omega arith),
          flag_said-decimal
              (reserved_of key ws t) (omega arith),
        ) refl

    tree_named : is_named (codes "tree") t (codes "tree") (decimal t) ≡ true
    unfolding is_named
    tree_named = let few = sizes.few_children in rw (spells-decimal t (omega arith)) refl

    tree_put : (words : List ℕ)
        → tree_with key t words (codes "tree") (decimal t) (decimal (tree_free_of key ws t)) (decimal (reserved_of key ws t)) []
        ≡ Some (with_tree key words t (entry_word (tree_free_of key ws t) (reserved_of key ws t)))
    unfolding tree_with
    tree_put words =
        rw (tree_named, tree_told, flag_of_test (reserved_of key ws t) (image.in_range.reserved t h)) refl

    -- the record of a tree says the tree
    pub tree_part : (words : List ℕ) (part : ℕ) → part ≡ key.children + t
        → part_with key part words (tree_row key ws t)
        ≡ Some (with_tree key words t (entry_word (tree_free_of key ws t) (reserved_of key ws t)))
    unfolding tree_row part_with fields_with
    tree_part words part e =
        let high : nat_lt part key.children ≡ false = grind (arith, nat_tests) in
        let number : part - key.children ≡ t = omega arith in
        let low : nat_lt t (tree_count key) ≡ true = grind (arith, nat_tests) in
        rw (high, number, low) (tree_put words)

  -- Cores.

  some_digits : (n : ℕ) → n < 2 ^ 64 → (length (decimal n) == 0) ≡ false
  some_digits n h = let some = decimal_nonempty n h in grind (arith, nat_tests)

  module _ (k : ℕ) (h : k < key.cores) where
    core_named : is_named (codes "core") k (codes "core") (decimal k) ≡ true
    unfolding is_named
    core_named = let few = sizes.few_cores in rw (spells-decimal k (omega arith)) refl

    reservation_told : (tree free : ℕ) → FitsTree key (tree, free)
        → reservation_said key (decimal tree) (decimal free) ≡ Some (tree, free)
    unfolding reservation_said
    reservation_told tree free fits =
        let few = sizes.few_children in
        rw (
          number_below-decimal (tree_count key) tree fits.0 (omega (arith, fits.0)),
          number_below-decimal (size_of key tree + 1) free
              (omega (arith, fits.1)) (omega (arith, fits.1)),
        ) refl

    rest_told : (tree free : ℕ) → FitsTree key (tree, free)
        → rest_said key (decimal tree) (decimal free) ≡ Some (Some (tree, free))
    unfolding rest_said
    rest_told tree free fits =
        let few = sizes.few_children in
        rw (some_digits tree (omega (arith, fits.0)), reservation_told tree free fits) refl

    -- the fields of a core, as a core
    core_turn : (words a b c d e : List ℕ) → fields_with key (key.children + tree_count key + k) words a b c d e
        ≡ core_with key k words a b c d e
    unfolding fields_with
    core_turn words a b c d e =
        let high : nat_lt (key.children + tree_count key + k) key.children ≡ false = grind (arith, nat_tests) in
        let behind : nat_lt (key.children + tree_count key + k - key.children) (tree_count key) ≡ false = grind (arith, nat_tests) in
        let number : key.children + tree_count key + k - key.children - tree_count key ≡ k = omega arith in
        let low : nat_lt k key.cores ≡ true = grind (arith, nat_tests) in
        rw (high, behind, number, low) refl

    core_none : (words : List ℕ)
        → core_with key k words (codes "core") (decimal k) [] [] [] ≡ Some (with_local key words k (local_word None))
    unfolding core_with rest_said
    core_none words = rw core_named refl

    core_some : (words : List ℕ) (rest : ℕ × ℕ) → FitsTree key rest
        → core_with key k words (codes "core") (decimal k) (decimal rest.0) (decimal rest.1) []
        ≡ Some (with_local key words k (local_word (Some rest)))
    unfolding core_with
    core_some words rest fits = rw (core_named, rest_told rest.0 rest.1 fits) refl

    core_put : (words : List ℕ) (rest : Option (ℕ × ℕ)) → ForSome rest (FitsTree key)
        → part_with key (key.children + tree_count key + k) words (rest_row k rest)
        ≡ Some (with_local key words k (local_word rest))
    unfolding rest_row part_with
    core_put words None fits =
        core_turn words (codes "core") (decimal k) [] [] [] ∙ core_none words
    core_put words (Some rest) fits =
        core_turn words (codes "core") (decimal k) (decimal rest.0) (decimal rest.1) [] ∙ core_some words rest (fits rest refl)

    -- the record of a core says the core
    pub core_part : (words : List ℕ) (part : ℕ) → part ≡ key.children + tree_count key + k
        → part_with key part words (core_row key ws k)
        ≡ Some (with_local key words k (local_word (rest_of key ws k)))
    unfolding core_row
    core_part words part e =
        ap (λ p. part_with key p words (rest_row k (rest_of key ws k))) e ∙ core_put words (rest_of key ws k) (image.rests k h)
