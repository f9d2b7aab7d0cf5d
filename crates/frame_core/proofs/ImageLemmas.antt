-- That an image stays one under each write, and what its readers say after a list of words was written.
use Rattle.std.proofs.Common.{◌≡◌, ◌≢◌, ⊎_elim, ℕ, zero, suc, ◌+◌, ◌*◌, ◌/◌, ◌%◌, ◌^◌, ◌<◌, ◌≤◌, List, [], ◌∷◌, ◌++◌, length, get_or, set}
use Rattle.std.proofs.Common.{refl, ap, sym, subst, ◌∙◌, arith, Option, None, Some}
use Rattle.std.specs.Option.{ForSome}
use Rattle.std.proofs.lemmas.Bool.{cases_eq, cases_lt}
use Rattle.frame_words.specs.Words.{free_in, flag_in, lane_put, rest_in, local_word}
use Rattle.frame_words.specs.declared.geometry.Geometry.{Geometry}
use Rattle.frame_model.specs.declared.key.Key.{Key}
use Rattle.frame_model.specs.Key.{key_of, tree_count, size_of}
use Rattle.frame_model.specs.Words.{entry_place, tree_place, local_place, bits_place, word_count, free_of, huge_of, tree_free_of}
use Rattle.frame_model.specs.Words.{reserved_of, rest_of, bit_word_of, with_entry, with_tree, with_local, with_bits, IsRest}
use Rattle.frame_core.specs.Image.{FitsTree, SetsPastEnd, IsImage, with_bit_list, with_child}
use Rattle.frame_model.proofs.Words.{entry_written, tree_written, local_written, bits_written}
use Rattle.frame_model.proofs.OtherWords.{rest_of-with_entry, bit_word_of-with_entry, rest_of-with_tree, rest_of-with_bits}

-- An image stays one.

module _ (key : Key) (ws : List ℕ) (i : IsImage key ws) where
  pub IsImage-with_entry : (c e : ℕ) → c < key.children → e < 2 ^ 16 → free_in e ≤ 512 → flag_in e ≤ 1
      → (key.frames < 512 * (c + 1) → flag_in e ≡ 0) → IsImage key (with_entry ws c e)
  IsImage-with_entry c e h small few one part =
      let w = entry_written key ws c e i.in_range h small in
      record {
        in_range = w.in_range few one;
        trees = λ t q. omega (arith, w.tree_free t, i.trees t q);
        rests = λ k q. subst (λ r. ForSome r (FitsTree key)) (sym (rest_of-with_entry key ws c e k h)) (i.rests k q);
        past_end = λ x p q. w.bits x ∙ i.past_end x p q;
        cut = λ d q p. ⊎_elim
            (λ s. ap (huge_of (with_entry ws c e)) s ∙ w.huge_here ∙ part (omega (arith, p, s)))
            (λ ne. w.huge_else d ne ∙ i.cut d q p)
            (cases_eq d c);
      }

  pub IsImage-with_tree : (t n : ℕ) → t < tree_count key → free_in n ≤ size_of key t → flag_in n ≤ 1 → IsImage key (with_tree key ws t n)
  IsImage-with_tree t n h few one =
      let w = tree_written key ws t n i.in_range h in
      record {
        in_range = w.in_range (omega arith) one;
        trees = λ u q. ⊎_elim (λ s. omega (arith, w.free_here, ap (tree_free_of key (with_tree key ws t n)) s, ap (size_of key) s))
            (λ ne. omega (arith, w.free_else u ne, i.trees u q)) (cases_eq u t);
        rests = λ k q. subst (λ r. ForSome r (FitsTree key)) (sym (rest_of-with_tree key ws t n k h)) (i.rests k q);
        past_end = λ x p q. w.bits x ∙ i.past_end x p q;
        cut = λ d q p. w.huge d q ∙ i.cut d q p;
      }

  pub IsImage-with_bits : (w n : ℕ) → w < 8 * key.children → n < 2 ^ 64 → SetsPastEnd key w n
      → IsImage key (with_bits key ws w n)
  IsImage-with_bits w n h fits past =
      let b = bits_written key ws w n i.in_range h in
      record {
        in_range = b.in_range fits;
        trees = λ t q. omega (arith, b.tree_free t q, i.trees t q);
        rests = λ k q. subst (λ r. ForSome r (FitsTree key)) (sym (rest_of-with_bits key ws w n k q)) (i.rests k q);
        past_end = λ x p q. ⊎_elim
            (λ s. b.bits_here x s ∙ past (x % 64) (omega arith) (omega (arith, p, s)))
            (λ ne. b.bits_else x ne ∙ i.past_end x p q)
            (cases_eq (x / 64) w);
        cut = λ d q p. b.huge d q ∙ i.cut d q p;
      }

  pub IsImage-with_local : (k n : ℕ) → k < key.cores → n ≡ local_word (rest_in n) → ForSome (rest_in n) (FitsTree key)
      → IsImage key (with_local key ws k n)
  IsImage-with_local k n h layout fits =
      let l = local_written key ws k n i.in_range h in
      record {
        in_range = l.in_range layout (is_rest (rest_in n) fits);
        trees = λ t q. omega (arith, l.tree_free t q, i.trees t q);
        rests = λ j q. ⊎_elim (λ s. subst (λ r. ForSome r (FitsTree key)) (sym (ap (rest_of key (with_local key ws k n)) s ∙ l.rest_here))
            fits) (λ ne. subst (λ r. ForSome r (FitsTree key)) (sym (l.rest_else j ne)) (i.rests j q)) (cases_eq j k);
        past_end = λ x p q. l.bits x ∙ i.past_end x p q;
        cut = λ d q p. l.huge d q ∙ i.cut d q p;
      }
    where
      is_rest : (r : Option (ℕ × ℕ)) → ForSome r (FitsTree key) → IsRest key r
      is_rest None f = tt
      is_rest (Some rest) f = let g : FitsTree key rest = f rest refl in (g.0, omega arith)

-- One word was put where it stands: the lists of the clauses.

module _ (key : Key) (ws : List ℕ) (place : ℕ) where
  pub set-with_entry : (c e old new : ℕ) → place ≡ entry_place c → old ≡ get_or ws place 0 → new ≡ lane_put old c e
      → set ws place new ≡ with_entry ws c e
  unfolding with_entry
  set-with_entry c e old new at is put =
      ap (set ws place) (put ∙ ap (λ n. lane_put n c e) is) ∙ ap (λ p. set ws p (lane_put (get_or ws p 0) c e)) at

  pub set-with_tree : (t n new : ℕ) → place ≡ tree_place key t → new ≡ n → set ws place new ≡ with_tree key ws t n
  unfolding with_tree
  set-with_tree t n new at put = ap (set ws place) put ∙ ap (λ p. set ws p n) at

  pub set-with_local : (k n new : ℕ) → place ≡ local_place key k → new ≡ n → set ws place new ≡ with_local key ws k n
  unfolding with_local
  set-with_local k n new at put = ap (set ws place) put ∙ ap (λ p. set ws p n) at

  pub set-with_bits : (w n : ℕ) → place ≡ bits_place key w → set ws place n ≡ with_bits key ws w n
  unfolding with_bits
  set-with_bits w n at = ap (λ p. set ws p n) at

-- The places of an image's words.

-- a place, in a geometry that is another
pub place_in : (place_of : Key → ℕ → ℕ) (g h : Geometry) (i p : ℕ) → p ≡ place_of (key_of g) i → g ≡ h → p ≡ place_of (key_of h) i
place_in place_of g h i p at e = let P : Geometry → ℕ = λ x. place_of (key_of x) i in at ∙ ap P e

module _ (key : Key) where
  pub entry_place-lt : (c : ℕ) → c < key.children → entry_place c < word_count key
  unfolding entry_place word_count
  entry_place-lt c h = omega arith

  pub tree_place-lt : (t : ℕ) → t < tree_count key → tree_place key t < word_count key
  unfolding tree_place word_count
  tree_place-lt t h = omega arith

  pub local_place-lt : (k : ℕ) → k < key.cores → local_place key k < word_count key
  unfolding local_place word_count
  local_place-lt k h = omega arith

-- one more bit word
pub with_bit_list-push : (key : Key) (ws : List ℕ) (w : ℕ) (xs : List ℕ) (n v : ℕ) → w + length xs ≡ v
    → with_bit_list key ws w (xs ++ n ∷ []) ≡ with_bits key (with_bit_list key ws w xs) v n
unfolding with_bit_list
with_bit_list-push key ws w [] n v e = ap (λ j. with_bits key ws j n) (omega arith)
with_bit_list-push key ws w (x ∷ xs) n v e = with_bit_list-push key (with_bits key ws w x) (w + 1) xs n v (omega arith)

-- What the words say once bit words from w on are those of a list.
pub record BitListWritten (key : Key) (ws : List ℕ) (w : ℕ) (xs new : List ℕ) : Type 0 where
  pub image : IsImage key new
  pub here : (i : ℕ) → i < length xs → bit_word_of key new (w + i) ≡ get_or xs i 0
  pub below : (v : ℕ) → v < w → bit_word_of key new v ≡ bit_word_of key ws v
  pub above : (v : ℕ) → w + length xs ≤ v → bit_word_of key new v ≡ bit_word_of key ws v
  pub free : (c : ℕ) → c < key.children → free_of new c ≡ free_of ws c
  pub huge : (c : ℕ) → c < key.children → huge_of new c ≡ huge_of ws c
  pub tree_free : (t : ℕ) → t < tree_count key → tree_free_of key new t ≡ tree_free_of key ws t
  pub reserved : (t : ℕ) → t < tree_count key → reserved_of key new t ≡ reserved_of key ws t
  pub rests : (k : ℕ) → k < key.cores → rest_of key new k ≡ rest_of key ws k

-- the first word and the others
here_more : (key : Key) (new : List ℕ) (w x : ℕ) (xs : List ℕ) → bit_word_of key new w ≡ x
    → ((j : ℕ) → j < length xs → bit_word_of key new (w + 1 + j) ≡ get_or xs j 0) → (i : ℕ) → i < length (x ∷ xs)
    → bit_word_of key new (w + i) ≡ get_or (x ∷ xs) i 0
here_more key new w x xs first others zero h = ap (bit_word_of key new) (omega arith) ∙ first
here_more key new w x xs first others (suc j) h = ap (bit_word_of key new) (omega arith) ∙ others j (omega arith)

pub bit_list_written : (key : Key) (ws : List ℕ) (w : ℕ) (xs : List ℕ) → IsImage key ws → w + length xs ≤ 8 * key.children
    → ((i : ℕ) → i < length xs → get_or xs i 0 < 2 ^ 64)
    → ((i : ℕ) → i < length xs → SetsPastEnd key (w + i) (get_or xs i 0)) → BitListWritten key ws w xs (with_bit_list key ws w xs)
unfolding with_bit_list
bit_list_written key ws w [] i room fits past = record {
  image = i;
  here = λ j q. omega arith;
  below = λ v q. refl;
  above = λ v q. refl;
  free = λ c q. refl;
  huge = λ c q. refl;
  tree_free = λ t q. refl;
  reserved = λ t q. refl;
  rests = λ k q. refl;
}
bit_list_written key ws w (x ∷ xs) i room fits past =
    let small : x < 2 ^ 64 = fits 0 (omega arith) in
    let h : w < 8 * key.children = omega arith in
    let b = bits_written key ws w x i.in_range h in
    let l = bit_list_written key (with_bits key ws w x) (w + 1) xs
    (IsImage-with_bits key ws i w x h small (λ j q p. past 0 (omega arith) j q (omega (arith, p)))) (omega arith)
    (λ j q. fits (suc j) (omega arith))
    (λ j q k l p. past (suc j) (omega arith) k l (omega (arith, p))) in
    record {
      image = l.image;
      here = here_more key (with_bit_list key (with_bits key ws w x) (w + 1) xs) w x xs (l.below w (omega arith) ∙ b.word_here) l.here;
      below = λ v q. l.below v (omega arith) ∙ b.word_else v (λ e. omega arith);
      above = λ v q. l.above v (omega arith) ∙ b.word_else v (λ e. omega arith);
      free = λ c q. l.free c q ∙ b.free c q;
      huge = λ c q. l.huge c q ∙ b.huge c q;
      tree_free = λ t q. l.tree_free t q ∙ b.tree_free t q;
      reserved = λ t q. l.reserved t q ∙ b.reserved t q;
      rests = λ k q. l.rests k q ∙ rest_of-with_bits key ws w x k q;
    }

-- What the words say once the entry of a child is e and its eight bit words are those of a list.
pub record ChildWritten (key : Key) (ws : List ℕ) (c e : ℕ) (xs new : List ℕ) : Type 0 where
  pub image : IsImage key new
  pub free_here : free_of new c ≡ free_in e
  pub huge_here : huge_of new c ≡ flag_in e
  pub free_else : (d : ℕ) → d < key.children → d ≢ c → free_of new d ≡ free_of ws d
  pub huge_else : (d : ℕ) → d < key.children → d ≢ c → huge_of new d ≡ huge_of ws d
  pub words_here : (i : ℕ) → i < 8 → bit_word_of key new (8 * c + i) ≡ get_or xs i 0
  pub words_else : (v : ℕ) → v / 8 ≢ c → bit_word_of key new v ≡ bit_word_of key ws v
  pub tree_free : (t : ℕ) → t < tree_count key → tree_free_of key new t ≡ tree_free_of key ws t
  pub reserved : (t : ℕ) → t < tree_count key → reserved_of key new t ≡ reserved_of key ws t
  pub rests : (k : ℕ) → k < key.cores → rest_of key new k ≡ rest_of key ws k

pub child_written : (key : Key) (ws : List ℕ) (c e : ℕ) (xs : List ℕ) → IsImage key ws → c < key.children → e < 2 ^ 16 → free_in e ≤ 512
    → flag_in e ≤ 1 → (key.frames < 512 * (c + 1) → flag_in e ≡ 0) → length xs ≡ 8 → ((i : ℕ) → i < 8 → get_or xs i 0 < 2 ^ 64)
    → ((i : ℕ) → i < 8 → SetsPastEnd key (8 * c + i) (get_or xs i 0)) → ChildWritten key ws c e xs (with_child key ws c e xs)
child_written key ws c e xs i h small few one part len fits past =
    let w = entry_written key ws c e i.in_range h small in
    let l = bit_list_written key (with_entry ws c e) (8 * c) xs (IsImage-with_entry key ws i c e h small few one part) (omega arith)
    (λ j q. fits j (omega arith)) (λ j q. past j (omega arith)) in
    record {
      image = l.image;
      free_here = l.free c h ∙ w.free_here;
      huge_here = l.huge c h ∙ w.huge_here;
      free_else = λ d q ne. l.free d q ∙ w.free_else d ne;
      huge_else = λ d q ne. l.huge d q ∙ w.huge_else d ne;
      words_here = λ j q. l.here j (omega arith);
      words_else = λ v ne. words_else (with_child key ws c e xs) v ne l.below l.above ∙ bit_word_of-with_entry key ws c e v h;
      tree_free = λ t q. l.tree_free t q ∙ w.tree_free t;
      reserved = λ t q. l.reserved t q ∙ w.reserved t;
      rests = λ k q. l.rests k q ∙ rest_of-with_entry key ws c e k h;
    }
  where
    words_else : (new : List ℕ) (v : ℕ) → v / 8 ≢ c → ((u : ℕ) → u < 8 * c → bit_word_of key new u ≡ bit_word_of key (with_entry ws c e) u)
        → ((u : ℕ) → 8 * c + length xs ≤ u → bit_word_of key new u ≡ bit_word_of key (with_entry ws c e) u)
        → bit_word_of key new v ≡ bit_word_of key (with_entry ws c e) v
    words_else new v ne below above = ⊎_elim (λ lt. below v lt) (λ ge. above v (omega arith)) (cases_lt v (8 * c))
