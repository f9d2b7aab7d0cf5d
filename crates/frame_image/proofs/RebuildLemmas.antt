-- How rebuilding goes on child by child and tree by tree.
use Rattle.std.proofs.Common.{◌≡◌, ◌≢◌, ◌∙◌, ⊎_elim, ℕ, zero, suc, ◌+◌, ◌-◌, ◌*◌, ◌/◌, ◌^◌, ◌<◌}
use Rattle.std.proofs.Common.{◌≤◌, List, length, get_or, map, replicate, refl, ap, sym, subst}
use Rattle.std.proofs.Common.{arith, below_more}
use Rattle.std.specs.List.{sum_by, range_with_len}
use Rattle.std.proofs.lemmas.Bool.{cases_eq}
use Rattle.std.proofs.lemmas.List.FromFn.{get_or-map-range_with_len, length-map-range_with_len}
use Rattle.frame_words.specs.Words.{entry_word, free_in, flag_in}
use Rattle.frame_words.proofs.WordLemmas.{free_in-entry_word, flag_in-entry_word, entry_word-lt}
use Rattle.frame_model.specs.declared.key.Key.{Key}
use Rattle.frame_model.specs.Key.{tree_count, children_in, children_of, size_of}
use Rattle.frame_model.specs.Words.{free_of, huge_of, tree_free_of, bit_word_of, set_of, with_tree, AreInRange}
use Rattle.frame_core.specs.Image.{Contents, IsImage, SetsPastEnd, blank_words, with_child}
use Rattle.frame_model.specs.Rebuilt.{rebuilt_free, rebuilt_in_tree, rebuilt_bits, IsRebuilt}
use Rattle.frame_model.proofs.Sums.{range_same}
use Rattle.frame_model.proofs.RebuiltLemmas.{rebuilt_free-set, rebuilt_free-huge, rebuilt_bits-set, rebuilt_bits-huge, IsRebuilt-again}
use Rattle.frame_core.proofs.Blank.{blank_image, blank_uncounted}
use Rattle.frame_core.proofs.SameWords.{same_words}
use Rattle.frame_model.proofs.Words.{tree_written}
use Rattle.frame_model.proofs.OtherWords.{bit_word_of-with_tree, rest_of-with_tree}
use Rattle.frame_core.proofs.ImageLemmas.{child_written, IsImage-with_tree}
use Rattle.frame_text.specs.ImageText.{child_bits}
use Rattle.frame_image.specs.Rebuilding.{IsRebuiltBelow, RebuildsJust, rebuilt_child}
use Rattle.frame_text.proofs.PastEnd.{word_past, whole_past, huge_whole}

pub map_same : (f g : ℕ → ℕ) (a n : ℕ) → ((d : ℕ) → a ≤ d → d < a + n → f d ≡ g d)
    → map f (range_with_len a n) ≡ map g (range_with_len a n)
map_same f g a zero same = refl
map_same f g a (suc n) same =
    rw (same a (omega arith) (omega arith), map_same f g (a + 1) n (λ d l h. same d (omega arith) (omega arith))) refl

blank_rebuilt : (key : Key) (old : List ℕ) → IsRebuiltBelow key old (blank_words key) 0 0
blank_rebuilt key old =
    let zeros = blank_uncounted key in
    record {
      image = blank_image key;
      huge = λ c h. absurd (omega arith);
      free = λ c h. absurd (omega arith);
      bits = λ w h. absurd (omega arith);
      trees = λ t h. absurd (omega arith);
      unreserved = zeros.unreserved;
      resting = zeros.resting;
    }

-- before any child
pub none_rebuilt : (key : Key) (old new : List ℕ) → new ≡ blank_words key → IsRebuiltBelow key old new 0 0
none_rebuilt key old new is = subst (λ (l : List ℕ). IsRebuiltBelow key old l 0 0) (sym is) (blank_rebuilt key old)

module _ (key : Key) (old : List ℕ) (c : ℕ) where
  -- a huge frame has its bits cleared
  pub huge_child : huge_of old c ≢ 0 → rebuilt_child key old c ≡ replicate {A = ℕ} 8 0
  unfolding rebuilt_child
  huge_child ne =
      map_same (rebuilt_bits key old) (λ _. 0) (8 * c) 8 (λ w l q.
      let here : w / 8 ≡ c = omega arith in rebuilt_bits-huge key old w (subst (λ d. huge_of old d ≢ 0) (sym here) ne))

  -- any other child keeps them
  pub small_child : huge_of old c ≡ 0 → rebuilt_child key old c ≡ child_bits key old c
  unfolding rebuilt_child child_bits
  small_child e =
      map_same (rebuilt_bits key old) (bit_word_of key old) (8 * c) 8 (λ w l q.
      let here : w / 8 ≡ c = omega arith in rebuilt_bits-set key old w (ap (huge_of old) here ∙ e))

  -- what is written of either
  pub huge_entry : huge_of old c ≡ 1 → entry_word 0 1 ≡ entry_word (rebuilt_free key old c) (huge_of old c)
  huge_entry e =
      let none : rebuilt_free key old c ≡ 0 = rebuilt_free-huge key old c (λ z. omega (arith, e, z)) in rw (none, e) refl

  pub small_entry : (free : ℕ) → huge_of old c ≡ 0 → free ≡ 512 - set_of key old c
      → entry_word free 0 ≡ entry_word (rebuilt_free key old c) (huge_of old c)
  small_entry free e is =
      let same : rebuilt_free key old c ≡ free = rebuilt_free-set key old c e ∙ sym is in rw (same, e) refl

-- the same child by other names
pub child_as : (i : Contents) (k l : Key) (c e f : ℕ) (xs ys : List ℕ) → k ≡ l → e ≡ f → xs ≡ ys
    → record i { words = with_child k i.words c e xs } ≡ record i { words = with_child l i.words c f ys }
child_as i k l c e f xs ys a b d = rw (a, b, d) refl

-- and the same tree
pub tree_as : (k l : Key) (words : List ℕ) (t n : ℕ) → k ≡ l → with_tree k words t n ≡ with_tree l words t n
tree_as k l words t n e = rw e refl

module _ (key : Key) (old : List ℕ) (image : IsImage key old) where
  module _ (c : ℕ) (h : c < key.children) where
    pub rebuilt_few : rebuilt_free key old c ≤ 512
    rebuilt_few =
        ⊎_elim (λ e. omega (arith, rebuilt_free-set key old c e)) (λ ne. omega (arith, rebuilt_free-huge key old c ne))
        (cases_eq (huge_of old c) 0)

  bits_word : (w : ℕ) → w < 8 * key.children → rebuilt_bits key old w < 2 ^ 64
  bits_word w h =
      ⊎_elim (λ e. omega (arith, rebuilt_bits-set key old w e, image.in_range.bits w h))
      (λ ne. omega (arith, rebuilt_bits-huge key old w ne)) (cases_eq (huge_of old (w / 8)) 0)

  bits_past_end : (w : ℕ) → w < 8 * key.children → SetsPastEnd key w (rebuilt_bits key old w)
  bits_past_end w h =
      ⊎_elim
      (λ e. subst (SetsPastEnd key w) (sym (rebuilt_bits-set key old w e)) (word_past key old image w h))
      (λ ne. whole_past key (w / 8) w (rebuilt_bits key old w) refl (huge_whole key old image (w / 8) (omega arith) ne))
      (cases_eq (huge_of old (w / 8)) 0)

  child_at : (c i : ℕ) → i < 8 → get_or (rebuilt_child key old c) i 0 ≡ rebuilt_bits key old (8 * c + i)
  unfolding rebuilt_child
  child_at c i h = get_or-map-range_with_len (rebuilt_bits key old) (8 * c) 8 i (8 * c + i) 0 h refl

  child_length : (c : ℕ) → length (rebuilt_child key old c) ≡ 8
  unfolding rebuilt_child
  child_length c = length-map-range_with_len (rebuilt_bits key old) (8 * c) 8

  -- a child more
  pub child_more : (new : List ℕ) (c : ℕ) → c < key.children → IsRebuiltBelow key old new c 0
      → IsRebuiltBelow key old (with_child key new c (entry_word (rebuilt_free key old c) (huge_of old c)) (rebuilt_child key old c))
      (c + 1) 0
  child_more new c h so =
      let few = rebuilt_few c h in
      let one = image.in_range.huge c h in
      let e : ℕ = entry_word (rebuilt_free key old c) (huge_of old c) in
      let next : List ℕ = with_child key new c e (rebuilt_child key old c) in
      let free : free_in e ≡ rebuilt_free key old c = free_in-entry_word (rebuilt_free key old c) (huge_of old c) (omega arith) in
      let up : flag_in e ≡ huge_of old c = flag_in-entry_word (rebuilt_free key old c) (huge_of old c) (omega arith) in
      let fits : (i : ℕ) → i < 8 → get_or (rebuilt_child key old c) i 0 < 2 ^ 64 =
      λ i q. omega (arith, child_at c i q, bits_word (8 * c + i) (omega arith)) in
      let past : (i : ℕ) → i < 8 → SetsPastEnd key (8 * c + i) (get_or (rebuilt_child key old c) i 0) =
      λ i q. subst (SetsPastEnd key (8 * c + i)) (sym (child_at c i q)) (bits_past_end (8 * c + i) (omega arith)) in
      let w = child_written key new c e (rebuilt_child key old c) so.image h
      (entry_word-lt (rebuilt_free key old c) (huge_of old c) (omega arith) one) (omega (arith, free)) (omega (arith, up))
      (λ p. up ∙ image.cut c h p) (child_length c) fits past in
      let at : (v : ℕ) → v / 8 ≡ c → bit_word_of key next v ≡ rebuilt_bits key old v =
      λ v q. let p : 8 * c + (v - 8 * c) ≡ v = omega arith in
      subst (λ u. bit_word_of key next u ≡ rebuilt_bits key old u) p
      (w.words_here (v - 8 * c) (omega arith) ∙ child_at c (v - 8 * c) (omega arith)) in
      record {
        image = w.image;
        huge = below_more (λ n. huge_of next n ≡ huge_of old n) c (λ d q. w.huge_else d (omega arith) (λ z. omega arith) ∙ so.huge d q)
            (w.huge_here ∙ up);
        free = below_more (λ n. free_of next n ≡ rebuilt_free key old n) c (λ d q. w.free_else d (omega arith) (λ z. omega arith) ∙ so.free d q)
            (w.free_here ∙ free);
        bits = λ v q. ⊎_elim (λ z. at v z) (λ ne. w.words_else v ne ∙ so.bits v (omega arith)) (cases_eq (v / 8) c);
        trees = λ t q. absurd (omega arith);
        unreserved = λ t q. w.reserved t q ∙ so.unreserved t q;
        resting = λ k q. w.rests k q ∙ so.resting k q;
      }

  -- a tree more
  pub tree_more : (new : List ℕ) (t free : ℕ) → t < tree_count key → IsRebuiltBelow key old new key.children t
      → free ≡ sum_by (free_of new) (children_of key t) → free ≤ size_of key t
      → IsRebuiltBelow key old (with_tree key new t (entry_word free 0)) key.children (t + 1)
  unfolding rebuilt_in_tree
  tree_more new t free h so sum few =
      let n : ℕ = entry_word free 0 in
      let next : List ℕ = with_tree key new t n in
      let counts : free_in n ≡ free = free_in-entry_word free 0 (omega arith) in
      let down : flag_in n ≡ 0 = flag_in-entry_word free 0 (omega arith) in
      let w = tree_written key new t n so.image.in_range h in
      let exact : sum_by (free_of new) (children_of key t) ≡ rebuilt_in_tree key old t =
      range_same (rebuilt_free key old) (free_of new) (8 * t) (children_in key t) (λ d l q. so.free d (omega arith)) in
      record {
        image = IsImage-with_tree key new so.image t n h (omega (arith, counts)) (omega (arith, down));
        huge = λ c q. w.huge c q ∙ so.huge c q;
        free = λ c q. w.free c q ∙ so.free c q;
        bits = λ v q. bit_word_of-with_tree key new t n v h ∙ so.bits v q;
        trees = below_more (λ v. tree_free_of key next v ≡ rebuilt_in_tree key old v) t (λ u q. w.free_else u (λ z. omega arith) ∙ so.trees u q)
            (w.free_here ∙ counts ∙ sum ∙ exact);
        unreserved = λ u q. ⊎_elim (λ (e : u ≡ t). rw e (w.reserved_here ∙ down)) (λ ne. w.reserved_else u ne ∙ so.unreserved u q)
            (cases_eq u t);
        resting = λ k q. rest_of-with_tree key new t n k h ∙ so.resting k q;
      }

  -- all of them
  pub all_rebuilt : (new : List ℕ) → IsRebuiltBelow key old new key.children (tree_count key) → IsRebuilt key old new
  all_rebuilt new so = record {
    in_range = so.image.in_range;
    huge = so.huge;
    free = so.free;
    bits = so.bits;
    trees = so.trees;
    unreserved = so.unreserved;
    resting = so.resting;
  }

-- Words are rebuilt in one way only.
pub one_rebuilding : (key : Key) (old a b : List ℕ) → IsRebuilt key old a → IsRebuilt key old b → b ≡ a
one_rebuilding key old a b ra rb =
    same_words key a b ra.in_range rb.in_range (record {
      free = λ c h. rb.free c h ∙ sym (ra.free c h);
      huge = λ c h. rb.huge c h ∙ sym (ra.huge c h);
      bits = λ w h. rb.bits w h ∙ sym (ra.bits w h);
      trees = λ t h. rb.trees t h ∙ sym (ra.trees t h);
      reserved = λ t h. rb.unreserved t h ∙ sym (ra.unreserved t h);
      rests = λ k h. rb.resting k h ∙ sym (ra.resting k h);
    })

-- and what was rebuilt is rebuilt as it is
pub rebuilds_just : (key : Key) (old new : List ℕ) → AreInRange key old → IsRebuilt key old new → RebuildsJust key new new
rebuilds_just key old new r made =
    let again = IsRebuilt-again key old new made r in
    record {
      rebuilt = again;
      only = λ other so. one_rebuilding key new new other again so;
    }
