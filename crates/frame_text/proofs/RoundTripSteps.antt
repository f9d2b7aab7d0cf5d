-- Each record that is read makes the words say one part more as the image says it.
use Rattle.std.proofs.Common.{◌≡◌, ◌∙◌, ⊎_elim, ℕ, ◌+◌, ◌-◌, ◌*◌, ◌/◌, ◌^◌, ◌<◌, List, length, get_or, refl, ap, sym, subst, arith, below_more}
use Rattle.std.specs.Option.{ForSome}
use Rattle.std.proofs.lemmas.Bool.{cases_eq}
use Rattle.std.proofs.lemmas.List.FromFn.{get_or-map-range_with_len, length-map-range_with_len}
use Rattle.frame_words.specs.Words.{entry_word, free_in, flag_in, rest_in, local_word}
use Rattle.frame_words.proofs.WordLemmas.{free_in-entry_word, flag_in-entry_word, entry_word-lt}
use Rattle.frame_model.specs.declared.key.Key.{Key}
use Rattle.frame_model.specs.Key.{tree_count}
use Rattle.frame_model.specs.Words.{free_of, huge_of, tree_free_of, reserved_of, rest_of, local_word_of, bit_word_of, with_tree, with_local}
use Rattle.frame_core.specs.Image.{IsImage, FitsTree, with_child}
use Rattle.frame_model.proofs.Words.{tree_written, local_written}
use Rattle.frame_model.proofs.OtherWords.{bit_word_of-with_tree, bit_word_of-with_local}
use Rattle.frame_core.proofs.ImageLemmas.{child_written, IsImage-with_tree, IsImage-with_local}
use Rattle.frame_text.specs.ImageText.{child_bits}
use Rattle.frame_core.proofs.SameWords.{SaysSame}
use Rattle.frame_text.proofs.PastEnd.{child_past}

-- words of an image that say the same as others of the parts below these numbers
pub record ReadSo (key : Key) (ws words : List ℕ) (child tree core : ℕ) : Type 0 where
  pub image : IsImage key words
  pub same : SaysSame key ws words child tree core

module _ (key : Key) (ws : List ℕ) (image : IsImage key ws) where
  bits_at : (c i : ℕ) → i < 8 → get_or (child_bits key ws c) i 0 ≡ bit_word_of key ws (8 * c + i)
  unfolding child_bits
  bits_at c i h = get_or-map-range_with_len (bit_word_of key ws) (8 * c) 8 i (8 * c + i) 0 h refl

  bits_length : (c : ℕ) → length (child_bits key ws c) ≡ 8
  unfolding child_bits
  bits_length c = length-map-range_with_len (bit_word_of key ws) (8 * c) 8

  -- a child more
  pub child_step : (words : List ℕ) (c : ℕ) → c < key.children → ReadSo key ws words c 0 0
      → ReadSo key ws (with_child key words c (entry_word (free_of ws c) (huge_of ws c)) (child_bits key ws c)) (c + 1) 0 0
  child_step words c h so =
      let few = image.in_range.free c h in
      let one = image.in_range.huge c h in
      let e : ℕ = entry_word (free_of ws c) (huge_of ws c) in
      let new : List ℕ = with_child key words c e (child_bits key ws c) in
      let free : free_in e ≡ free_of ws c = free_in-entry_word (free_of ws c) (huge_of ws c) (omega arith) in
      let up : flag_in e ≡ huge_of ws c = flag_in-entry_word (free_of ws c) (huge_of ws c) (omega arith) in
      let fits : (i : ℕ) → i < 8 → get_or (child_bits key ws c) i 0 < 2 ^ 64 =
      λ i q. omega (arith, bits_at c i q, image.in_range.bits (8 * c + i) (omega arith)) in
      let w = child_written key words c e (child_bits key ws c) so.image h (entry_word-lt (free_of ws c) (huge_of ws c) (omega arith) one)
      (omega (arith, free)) (omega (arith, up)) (λ p. up ∙ image.cut c h p) (bits_length c) fits (child_past key ws image c h) in
      let at : (v : ℕ) → v / 8 ≡ c → bit_word_of key new v ≡ bit_word_of key ws v =
      λ v q. let p : 8 * c + (v - 8 * c) ≡ v = omega arith in
      subst (λ u. bit_word_of key new u ≡ bit_word_of key ws u) p
      (w.words_here (v - 8 * c) (omega arith) ∙ bits_at c (v - 8 * c) (omega arith)) in
      record {
        image = w.image;
        same = record {
          free = below_more (λ n. free_of new n ≡ free_of ws n) c (λ d q. w.free_else d (omega arith) (λ z. omega arith) ∙ so.same.free d q)
              (w.free_here ∙ free);
          huge = below_more (λ n. huge_of new n ≡ huge_of ws n) c (λ d q. w.huge_else d (omega arith) (λ z. omega arith) ∙ so.same.huge d q)
              (w.huge_here ∙ up);
          bits = λ v q. ⊎_elim (λ z. at v z) (λ ne. w.words_else v ne ∙ so.same.bits v (omega arith)) (cases_eq (v / 8) c);
          trees = λ t q. omega arith;
          reserved = λ t q. omega arith;
          rests = λ k q. absurd (omega arith);
        };
      }

  -- a tree more
  pub tree_step : (words : List ℕ) (t : ℕ) → t < tree_count key → ReadSo key ws words key.children t 0
      → ReadSo key ws (with_tree key words t (entry_word (tree_free_of key ws t) (reserved_of key ws t))) key.children (t + 1) 0
  tree_step words t h so =
      let few = image.trees t h in
      let one = image.in_range.reserved t h in
      let n : ℕ = entry_word (tree_free_of key ws t) (reserved_of key ws t) in
      let new : List ℕ = with_tree key words t n in
      let free : free_in n ≡ tree_free_of key ws t = free_in-entry_word (tree_free_of key ws t) (reserved_of key ws t) (omega arith) in
      let up : flag_in n ≡ reserved_of key ws t = flag_in-entry_word (tree_free_of key ws t) (reserved_of key ws t) (omega arith) in
      let w = tree_written key words t n so.image.in_range h in
      record {
        image = IsImage-with_tree key words so.image t n h (omega (arith, free)) (omega (arith, up));
        same = record {
          free = λ c q. w.free c q ∙ so.same.free c q;
          huge = λ c q. w.huge c q ∙ so.same.huge c q;
          bits = λ v q. bit_word_of-with_tree key words t n v h ∙ so.same.bits v q;
          trees = below_more (λ n. tree_free_of key new n ≡ tree_free_of key ws n) t (λ u q. w.free_else u (λ z. omega arith) ∙ so.same.trees u q)
              (w.free_here ∙ free);
          reserved = below_more (λ n. reserved_of key new n ≡ reserved_of key ws n) t
              (λ u q. w.reserved_else u (λ z. omega arith) ∙ so.same.reserved u q) (w.reserved_here ∙ up);
          rests = λ k q. absurd (omega arith);
        };
      }

  rest_tells : (k : ℕ) → rest_in (local_word_of key ws k) ≡ rest_of key ws k
  unfolding rest_of
  rest_tells k = refl

  rest_again : (k : ℕ) → k < key.cores → rest_in (local_word (rest_of key ws k)) ≡ rest_of key ws k
  rest_again k h = sym (ap rest_in (image.in_range.locals k h)) ∙ rest_tells k

  -- a core more
  pub core_step : (words : List ℕ) (k : ℕ) → k < key.cores → ReadSo key ws words key.children (tree_count key) k
      → ReadSo key ws (with_local key words k (local_word (rest_of key ws k))) key.children (tree_count key) (k + 1)
  core_step words k h so =
      let n : ℕ = local_word (rest_of key ws k) in
      let new : List ℕ = with_local key words k n in
      let rest : rest_in n ≡ rest_of key ws k = rest_again k h in
      let w = local_written key words k n so.image.in_range h in
      record {
        image = IsImage-with_local key words so.image k n h (ap local_word (sym rest))
            (subst (λ r. ForSome r (FitsTree key)) (sym rest) (image.rests k h));
        same = record {
          free = λ c q. w.free c q ∙ so.same.free c q;
          huge = λ c q. w.huge c q ∙ so.same.huge c q;
          bits = λ v q. bit_word_of-with_local key words k n v h ∙ so.same.bits v q;
          trees = λ t q. w.tree_free t q ∙ so.same.trees t q;
          reserved = λ t q. w.reserved t q ∙ so.same.reserved t q;
          rests = λ j q. ⊎_elim (λ (e : j ≡ k). rw e (w.rest_here ∙ rest)) (λ ne. w.rest_else j ne ∙ so.same.rests j (omega arith))
              (cases_eq j k);
        };
      }
