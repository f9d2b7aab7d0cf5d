-- What the readers of an image say once a part of it was written.
use Rattle.std.proofs.Common.{◌≡◌, ℕ, ◌+◌, ◌*◌, ◌<◌, ◌≤◌, List, Bool, true, false, Option, None, Some, refl, ◌∙◌, arith}
use Rattle.std.specs.Option.{ForSome}
use Rattle.frame_words.specs.Words.{flag, entry_word, local_word, rest_in}
use Rattle.frame_words.proofs.WordLemmas.{flag-le, free_in-entry_word, flag_in-entry_word, entry_word-lt, rest_in-local_word, rest_in-local_none}
use Rattle.frame_model.specs.declared.key.Key.{Key}
use Rattle.frame_model.specs.Key.{tree_count, size_of}
use Rattle.frame_model.specs.Words.{with_entry, with_bits, with_tree, with_local}
use Rattle.frame_model.proofs.Words.{entry_written, tree_written, local_written, bits_written}
use Rattle.frame_model.proofs.OtherWords.{rest_of-with_entry, bit_word_of-with_entry, rest_of-with_tree, bit_word_of-with_tree}
use Rattle.frame_model.proofs.OtherWords.{bit_word_of-with_local, rest_of-with_bits}
use Rattle.frame_core.specs.Image.{FitsTree, IsImage, with_child}
use Rattle.frame_core.proofs.ImageLemmas.{child_written}
use Rattle.plain_moves.specs.Readers.{AreBits, ReadsEntry, ReadsWord, ReadsChild, ReadsTree, ReadsCore}

module _ (key : Key) (ws : List ℕ) (i : IsImage key ws) where
  pub reads_entry : (child free : ℕ) (huge : Bool) → child < key.children → free ≤ 512
      → ReadsEntry key child free huge ws (with_entry ws child (entry_word free (flag huge)))
  reads_entry child free huge h few =
      let e : ℕ = entry_word free (flag huge) in
      let w = entry_written key ws child e i.in_range h (entry_word-lt free (flag huge) (omega (arith, few)) (flag-le huge)) in
      record {
        count = w.free_here ∙ free_in-entry_word free (flag huge) (omega (arith, few));
        is_huge = w.huge_here ∙ flag_in-entry_word free (flag huge) (omega (arith, few));
        same_bits = λ c q v p. bit_word_of-with_entry key ws child e (8 * c + v) h;
        others = λ c q ne. (w.free_else c ne, w.huge_else c ne);
        trees = λ t q. (w.tree_free t, w.reserved t);
        cores = λ k q. rest_of-with_entry key ws child e k h;
      }

  pub reads_word : (word bits : ℕ) → word < 8 * key.children → ReadsWord key word bits ws (with_bits key ws word bits)
  reads_word word bits h =
      let w = bits_written key ws word bits i.in_range h in
      record {
        here = w.word_here;
        others = λ v ne. w.word_else v ne;
        entries = λ c q. (w.free c q, w.huge c q);
        trees = λ t q. (w.tree_free t q, w.reserved t q);
        cores = λ k q. rest_of-with_bits key ws word bits k q;
      }

  -- a child that is not whole has no flag
  unflagged : (child : ℕ) (huge : Bool) → (huge ≡ true → 512 * (child + 1) ≤ key.frames) → key.frames < 512 * (child + 1) → flag huge ≡ 0
  unflagged child true whole part = absurd (omega (arith, whole refl, part))
  unflagged child false whole part = refl

  pub reads_child : (child free : ℕ) (huge : Bool) (bits : List ℕ) → child < key.children → free ≤ 512
      → (huge ≡ true → 512 * (child + 1) ≤ key.frames) → AreBits key child bits
      → ReadsChild key child free huge bits ws (with_child key ws child (entry_word free (flag huge)) bits)
  reads_child child free huge bits h few whole are =
      let e : ℕ = entry_word free (flag huge) in
      let count = free_in-entry_word free (flag huge) (omega (arith, few)) in
      let up = flag_in-entry_word free (flag huge) (omega (arith, few)) in
      let w = child_written key ws child e bits i h (entry_word-lt free (flag huge) (omega (arith, few)) (flag-le huge)) (omega (arith, count, few))
      (omega (arith, up, flag-le huge)) (λ part. up ∙ unflagged child huge whole part) are.0 (λ v p. (are.1 v p).0) (λ v p. (are.1 v p).1) in
      record {
        count = w.free_here ∙ count;
        is_huge = w.huge_here ∙ up;
        here = λ v p. w.words_here v p;
        others = λ c q ne. (
          (w.free_else c q ne, w.huge_else c q ne),
          λ v p. w.words_else (8 * c + v) (λ same. ne (omega (arith, same, p))),
        );
        trees = λ t q. (w.tree_free t q, w.reserved t q);
        cores = λ k q. w.rests k q;
      }

  pub reads_tree : (tree free : ℕ) (reserved : Bool) → tree < tree_count key → free ≤ size_of key tree
      → ReadsTree key tree free reserved ws (with_tree key ws tree (entry_word free (flag reserved)))
  reads_tree tree free reserved h few =
      let n : ℕ = entry_word free (flag reserved) in
      let w = tree_written key ws tree n i.in_range h in
      record {
        count = w.free_here ∙ free_in-entry_word free (flag reserved) (omega (arith, few));
        is_reserved = w.reserved_here ∙ flag_in-entry_word free (flag reserved) (omega (arith, few));
        others = λ t q ne. (w.free_else t ne, w.reserved_else t ne);
        children = λ c q. ((w.free c q, w.huge c q), λ v p. bit_word_of-with_tree key ws tree n (8 * c + v) h);
        cores = λ k q. rest_of-with_tree key ws tree n k h;
      }

  -- a reservation is read as it was written
  same_rest : (rest : Option (ℕ × ℕ)) → ForSome rest (FitsTree key) → rest_in (local_word rest) ≡ rest
  same_rest None fits = rest_in-local_none
  same_rest (Some rest) fits = rest_in-local_word rest.0 rest.1 (let f : FitsTree key rest = fits rest refl in omega (arith, f.1))

  pub reads_core : (core : ℕ) (rest : Option (ℕ × ℕ)) → core < key.cores → ForSome rest (FitsTree key)
      → ReadsCore key core rest ws (with_local key ws core (local_word rest))
  reads_core core rest h fits =
      let w = local_written key ws core (local_word rest) i.in_range h in
      record {
        resting = w.rest_here ∙ same_rest rest fits;
        others = λ k q ne. w.rest_else k ne;
        children = λ c q. ((w.free c q, w.huge c q), λ v p. bit_word_of-with_local key ws core (local_word rest) (8 * c + v) h);
        trees = λ t q. (w.tree_free t q, w.reserved t q);
      }
