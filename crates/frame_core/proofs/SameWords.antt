-- Words that say the same are the same.
use Rattle.std.proofs.Common.{◌≡◌, ◌∙◌, ⊎_elim, ℕ, ◌+◌, ◌-◌, ◌*◌, ◌/◌, ◌%◌, ◌^◌, ◌<◌, ◌≤◌, List, get_or, ap, sym, subst, arith}
use Rattle.std.proofs.lemmas.Bool.{cases_lt, cases_eq}
use Rattle.std.proofs.lemmas.List.{ext_get_or}
use Rattle.frame_words.specs.Words.{entry_word, lane_in, local_word}
use Rattle.frame_words.proofs.WordLemmas.{entry_word-parts}
use Rattle.frame_words.proofs.LaneLemmas.{lane_in-place, same_lanes}
use Rattle.frame_model.specs.declared.key.Key.{Key}
use Rattle.frame_model.specs.Key.{tree_count}
use Rattle.frame_model.specs.Words.{first_tree, first_local, first_bits, entry_place, tree_place, local_place, bits_place, word_count, entry_of, free_of}
use Rattle.frame_model.specs.Words.{huge_of, tree_word_of, tree_free_of, reserved_of, local_word_of, rest_of, bit_word_of, AreInRange}

-- two lists of words say the same of the children, trees and cores below these numbers
pub record SaysSame (key : Key) (old new : List ℕ) (child tree core : ℕ) : Type 0 where
  pub free : (c : ℕ) → c < child → free_of new c ≡ free_of old c
  pub huge : (c : ℕ) → c < child → huge_of new c ≡ huge_of old c
  pub bits : (w : ℕ) → w < 8 * child → bit_word_of key new w ≡ bit_word_of key old w
  pub trees : (t : ℕ) → t < tree → tree_free_of key new t ≡ tree_free_of key old t
  pub reserved : (t : ℕ) → t < tree → reserved_of key new t ≡ reserved_of key old t
  pub rests : (k : ℕ) → k < core → rest_of key new k ≡ rest_of key old k

module _ (key : Key) (a b : List ℕ) (ra : AreInRange key a) (rb : AreInRange key b)
    (same : SaysSame key a b key.children (tree_count key) key.cores) where
  entry_parts : (ws : List ℕ) (c : ℕ) → entry_word (free_of ws c) (huge_of ws c) ≡ entry_of ws c
  unfolding free_of huge_of
  entry_parts ws c = entry_word-parts (entry_of ws c)

  tree_parts : (ws : List ℕ) (t : ℕ) → entry_word (tree_free_of key ws t) (reserved_of key ws t) ≡ tree_word_of key ws t
  unfolding tree_free_of reserved_of
  tree_parts ws t = entry_word-parts (tree_word_of key ws t)

  same_entry : (c : ℕ) → c < 8 * tree_count key → entry_of b c ≡ entry_of a c
  same_entry c h =
      ⊎_elim
      (λ l. sym (entry_parts b c) ∙ ap (λ n. entry_word n (huge_of b c)) (same.free c l)
      ∙ ap (entry_word (free_of a c)) (same.huge c l) ∙ entry_parts a c)
      (λ g. rb.absent c g h ∙ sym (ra.absent c g h))
      (cases_lt c key.children)

  -- the word of four entries
  same_entries : (w : ℕ) → w < 2 * tree_count key → get_or b (entry_place (4 * w)) 0 ≡ get_or a (entry_place (4 * w)) 0
  unfolding entry_of entry_place
  same_entries w h =
      let p : ℕ = entry_place (4 * w) in
      let place : (j : ℕ) → j < 4 → entry_place (4 * w + j) ≡ p = λ j few. omega arith in
      let lane : (ws : List ℕ) (j : ℕ) → j < 4 → entry_of ws (4 * w + j) ≡ lane_in (get_or ws p 0) j =
      λ ws j few. ap (λ q. lane_in (get_or ws q 0) (4 * w + j)) (place j few)
      ∙ lane_in-place (get_or ws p 0) j (4 * w + j) (omega arith) in
      same_lanes (get_or b p 0) (get_or a p 0) (rb.entry_words (4 * w) (omega arith)) (ra.entry_words (4 * w) (omega arith))
      (λ j few. sym (lane b j few) ∙ same_entry (4 * w + j) (omega arith) ∙ lane a j few)

  same_tree : (t : ℕ) → t < tree_count key → tree_word_of key b t ≡ tree_word_of key a t
  same_tree t h =
      sym (tree_parts b t) ∙ ap (λ n. entry_word n (reserved_of key b t)) (same.trees t h)
      ∙ ap (entry_word (tree_free_of key a t)) (same.reserved t h) ∙ tree_parts a t

  same_local : (k : ℕ) → k < key.cores → local_word_of key b k ≡ local_word_of key a k
  same_local k h = rb.locals k h ∙ ap local_word (same.rests k h) ∙ sym (ra.locals k h)

  -- the word at a place that is some reader's
  at_tree : (i t : ℕ) → t < tree_count key → i ≡ tree_place key t → get_or b i 0 ≡ get_or a i 0
  unfolding tree_word_of
  at_tree i t h e = rw e (same_tree t h)

  at_local : (i k : ℕ) → k < key.cores → i ≡ local_place key k → get_or b i 0 ≡ get_or a i 0
  unfolding local_word_of
  at_local i k h e = rw e (same_local k h)

  at_bits : (i w : ℕ) → w < 8 * key.children → i ≡ bits_place key w → get_or b i 0 ≡ get_or a i 0
  unfolding bit_word_of
  at_bits i w h e = rw e (same.bits w h)

  at_between : (i d : ℕ) → d < 7 → i ≡ tree_place key (tree_count key) + d → get_or b i 0 ≡ get_or a i 0
  at_between i d h e = rw e (rb.between d h ∙ sym (ra.between d h))

  at_beside : (i k d : ℕ) → k < key.cores → 0 < d → d < 8 → i ≡ local_place key k + d → get_or b i 0 ≡ get_or a i 0
  at_beside i k d h some few e = rw e (rb.beside k d h some few ∙ sym (ra.beside k d h some few))

  -- behind the entries
  at_trees : (i : ℕ) → first_tree key ≤ i → i < first_tree key + tree_count key
      → get_or b i 0 ≡ get_or a i 0
  unfolding tree_place
  at_trees i l h = at_tree i (i - first_tree key) (omega arith) (omega arith)

  at_gap : (i : ℕ) → first_tree key + tree_count key ≤ i
      → i < first_local key → get_or b i 0 ≡ get_or a i 0
  unfolding tree_place
  at_gap i l h = at_between i (i - (first_tree key + tree_count key)) (omega arith) (omega arith)

  at_locals : (i : ℕ) → first_local key ≤ i
      → i < first_bits key → get_or b i 0 ≡ get_or a i 0
  unfolding local_place
  at_locals i l h =
      let d : ℕ = i - first_local key in
      ⊎_elim
      (λ (e : d % 8 ≡ 0). at_local i (d / 8) (omega arith) (omega arith))
      (λ ne. at_beside i (d / 8) (d % 8) (omega arith) (omega arith) (omega arith) (omega arith))
      (cases_eq (d % 8) 0)

  at_last : (i : ℕ) → first_bits key ≤ i → i < word_count key
      → get_or b i 0 ≡ get_or a i 0
  unfolding bits_place word_count
  at_last i l h = at_bits i (i - first_bits key) (omega arith) (omega arith)

  at_entry : (i w : ℕ) → w < 2 * tree_count key → i ≡ entry_place (4 * w) → get_or b i 0 ≡ get_or a i 0
  at_entry i w h e = rw e (same_entries w h)

  at_behind : (i u d : ℕ) → u < tree_count key → 1 < d → d < 8 → i ≡ entry_place (8 * u) + d → get_or b i 0 ≡ get_or a i 0
  at_behind i u d h some few e = rw e (rb.behind u d h some few ∙ sym (ra.behind u d h some few))

  at_entries : (i : ℕ) → 8 ≤ i → i < first_tree key → get_or b i 0 ≡ get_or a i 0
  unfolding entry_place
  at_entries i l h =
      let d : ℕ = i - 8 in
      ⊎_elim
      (λ (few : d % 8 < 2). at_entry i (2 * (d / 8) + d % 8) (omega arith) (omega arith))
      (λ more. at_behind i (d / 8) (d % 8) (omega arith) (omega arith) (omega arith) (omega arith))
      (cases_lt (d % 8) 2)

  at_any : (i : ℕ) → i < word_count key → get_or b i 0 ≡ get_or a i 0
  at_any i h =
      ⊎_elim (λ l. rb.anchor i l ∙ sym (ra.anchor i l)) (λ g.
      ⊎_elim (λ l. at_entries i g l) (λ g2.
      ⊎_elim (λ l. at_trees i g2 l) (λ g3.
      ⊎_elim (λ l. at_gap i g3 l) (λ g4.
      ⊎_elim (λ l. at_locals i g4 l) (λ g5. at_last i g5 h)
      (cases_lt i (first_bits key)))
      (cases_lt i (first_local key)))
      (cases_lt i (first_tree key + tree_count key)))
      (cases_lt i (first_tree key)))
      (cases_lt i 8)

  -- words that say the same of all children, trees and cores are the same
  pub same_words : b ≡ a
  same_words = ext_get_or 0 b a (rb.count ∙ sym ra.count) (λ i h. at_any i (omega (arith, rb.count)))
