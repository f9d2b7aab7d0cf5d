-- Counters that are made from the bits: one entry and one tree after another, and what they say at the end.
use Rattle.std.proofs.Common.{◌≡◌, ⊎_elim, ℕ, ◌+◌, ◌*◌, ◌/◌, ◌^◌, ◌<◌, ◌≤◌, List, [], true, refl, ap, sym, subst, ◌∙◌, arith}
use Rattle.std.specs.Prelude.{if◌then◌else◌, ◌||◌, nat_le}
use Rattle.std.specs.List.{sum_by, list_any}
use Rattle.std.specs.Option.{ForSome}
use Rattle.std.proofs.lemmas.Bool.{cases_eq}
use Rattle.std.proofs.lemmas.Bool.Decides.{nat_tests}
use Rattle.frame_words.specs.Words.{entry_word, free_in, flag_in}
use Rattle.frame_words.proofs.WordLemmas.{free_in-entry_word, flag_in-entry_word, entry_word-lt}
use Rattle.frame_model.proofs.HeldBack.{in_range_held_back}
use Rattle.frame_model.specs.declared.key.Key.{Key}
use Rattle.frame_model.specs.Key.{frame_count, tree_count, children_in, children_of, size_of, is_in_range, is_boot_frame}
use Rattle.frame_model.specs.Words.{tree_place, local_place, bits_place, free_of, huge_of, tree_word_of, tree_free_of}
use Rattle.frame_model.specs.Words.{reserved_of, local_word_of, rest_of, bit_of, bit_word_of, set_of, with_entry, with_tree, with_bits}
use Rattle.frame_model.specs.Words.{AreInRange}
use Rattle.frame_core.specs.Image.{FitsTree, IsImage, IsAllFree, IsUncounted, IsCountedBelow, HasSameBits}
use Rattle.frame_model.specs.Rebuilt.{rebuilt_free, rebuilt_in_tree, rebuilt_bits, IsRebuilt}
use Rattle.frame_model.specs.Openings.{IsSealedOpening}
use Rattle.frame_model.proofs.Sums.{range_same}
use Rattle.frame_model.proofs.Words.{entry_written, tree_written, bits_written}
use Rattle.frame_model.proofs.OtherWords.{rest_of-with_entry, rest_of-with_tree, rest_of-with_bits}
use Rattle.frame_core.proofs.ImageLemmas.{IsImage-with_entry, IsImage-with_tree}
use Rattle.frame_model.proofs.Opening.{range_all}
use Rattle.frame_model.proofs.Sets.{set_none, word_none}

-- one more child
pub record ChildCounted (key : Key) (ws : List ℕ) (c : ℕ) (new : List ℕ) : Type 0 where
  pub image : IsImage key new
  pub bits : HasSameBits key ws new
  pub counted : IsCountedBelow key new (c + 1) 0

pub child_counted : (key : Key) (ws : List ℕ) (c n : ℕ) → IsImage key ws → IsCountedBelow key ws c 0
    → c < key.children → n + set_of key ws c ≡ 512 → ChildCounted key ws c (with_entry ws c (entry_word n 0))
child_counted key ws c n image f h all =
    let e : ℕ = entry_word n 0 in
    let new : List ℕ = with_entry ws c e in
    let small : e < 2 ^ 16 = entry_word-lt n 0 (omega arith) (omega arith) in
    let free : free_in e ≡ n = free_in-entry_word n 0 (omega arith) in
    let huge : flag_in e ≡ 0 = flag_in-entry_word n 0 (omega arith) in
    let w = entry_written key ws c e image.in_range h small in
    record {
      image = IsImage-with_entry key ws image c e h small (omega arith) (omega arith) (λ p. huge);
      bits = w.bits;
      counted = record {
        free = λ d q. ⊎_elim
            (λ s. omega (arith, w.free_here, ap (free_of new) s, ap (set_of key new) s, w.sets c))
            (λ ne. omega (arith, w.free_else d ne, w.sets d, f.free d (omega arith)))
            (cases_eq d c);
        huge = λ d q. ⊎_elim
            (λ s. omega (arith, w.huge_here, ap (huge_of new) s))
            (λ ne. omega (arith, w.huge_else d ne, f.huge d q))
            (cases_eq d c);
        trees = λ u q. omega arith;
        unreserved = λ u q. w.reserved u ∙ f.unreserved u q;
        resting = λ k q. rest_of-with_entry key ws c e k h ∙ f.resting k q;
      };
    }

-- one more tree, once all children were counted
pub record TreeCounted (key : Key) (ws : List ℕ) (t : ℕ) (new : List ℕ) : Type 0 where
  pub image : IsImage key new
  pub bits : HasSameBits key ws new
  pub counted : IsCountedBelow key new key.children (t + 1)

pub tree_counted : (key : Key) (ws : List ℕ) (t n : ℕ) → IsImage key ws → IsCountedBelow key ws key.children t
    → t < tree_count key → n ≡ sum_by (free_of ws) (children_of key t) → n ≤ size_of key t
    → TreeCounted key ws t (with_tree key ws t (entry_word n 0))
tree_counted key ws t n image f h sum few =
    let e : ℕ = entry_word n 0 in
    let new : List ℕ = with_tree key ws t e in
    let free : free_in e ≡ n = free_in-entry_word n 0 (omega arith) in
    let flag : flag_in e ≡ 0 = flag_in-entry_word n 0 (omega arith) in
    let w = tree_written key ws t e image.in_range h in
    let same : (u : ℕ) → sum_by (free_of new) (children_of key u) ≡ sum_by (free_of ws) (children_of key u) =
    λ u. range_same (free_of ws) (free_of new) (8 * u) (children_in key u) (λ d l q. w.free d (omega arith)) in
    record {
      image = IsImage-with_tree key ws image t e h (omega arith) (omega arith);
      bits = w.bits;
      counted = record {
        free = λ d q. omega (arith, w.free d q, w.sets d, f.free d q);
        huge = λ d q. w.huge d q ∙ f.huge d q;
        trees = λ u q. ⊎_elim
            (λ s. ap (tree_free_of key new) s ∙ w.free_here ∙ free ∙ sum ∙ sym (same t)
            ∙ ap (λ v. sum_by (free_of new) (children_of key v)) (sym s))
            (λ ne. w.free_else u ne ∙ f.trees u (omega arith) ∙ sym (same u))
            (cases_eq u t);
        unreserved = λ u q. ⊎_elim
            (λ s. omega (arith, w.reserved_here, ap (reserved_of key new) s))
            (λ ne. omega (arith, w.reserved_else u ne, f.unreserved u q))
            (cases_eq u t);
        resting = λ k q. rest_of-with_tree key ws t e k h ∙ f.resting k q;
      };
    }

-- a bit word, before anything was counted
pub uncounted_bits : (key : Key) (ws : List ℕ) (w n : ℕ) → IsUncounted key ws → w < 8 * key.children → n < 2 ^ 64
    → IsUncounted key (with_bits key ws w n)
uncounted_bits key ws w n f h fits =
    let b = bits_written key ws w n f.in_range h in
    record {
      in_range = b.in_range fits;
      huge = λ d q. b.huge d q ∙ f.huge d q;
      trees = λ u q. b.tree_free u q ∙ f.trees u q;
      unreserved = λ u q. b.reserved u q ∙ f.unreserved u q;
      resting = λ k q. rest_of-with_bits key ws w n k q ∙ f.resting k q;
    }

pub uncounted_image : (key : Key) (ws : List ℕ) → IsUncounted key ws
    → ((x : ℕ) → key.frames ≤ x → x < frame_count key → bit_of key ws x ≡ 1) → IsImage key ws
uncounted_image key ws f past = record {
  in_range = f.in_range;
  trees = λ t q. omega (arith, f.trees t q);
  rests = λ k q. subst (λ r. ForSome r (FitsTree key)) (sym (f.resting k q)) (λ rest none. cc);
  past_end = past;
  cut = λ c q p. f.huge c q;
}

-- Where all children and trees are counted.

module _ (key : Key) (ws : List ℕ) (r : AreInRange key ws) (f : IsCountedBelow key ws key.children (tree_count key)) where
  free_left : (c : ℕ) → c < key.children → rebuilt_free key ws c ≡ free_of ws c
  unfolding rebuilt_free
  free_left c h = rw (f.huge c h) (omega (arith, f.free c h))

  tree_left : (t : ℕ) → t < tree_count key → rebuilt_in_tree key ws t ≡ sum_by (free_of ws) (children_of key t)
  unfolding rebuilt_in_tree
  tree_left t h = range_same (free_of ws) (rebuilt_free key ws) (8 * t) (children_in key t) (λ c l u. free_left c (omega arith))

  bits_stay : (w : ℕ) → w < 8 * key.children → bit_word_of key ws w ≡ rebuilt_bits key ws w
  unfolding rebuilt_bits
  bits_stay w h = rw (f.huge (w / 8) (omega arith)) refl

  -- they equal their own rebuilding
  pub counted_exact : IsRebuilt key ws ws
  counted_exact = record {
    in_range = r;
    huge = λ c h. refl;
    free = λ c h. sym (free_left c h);
    bits = bits_stay;
    trees = λ t h. f.trees t h ∙ sym (tree_left t h);
    unreserved = f.unreserved;
    resting = f.resting;
  }

  -- and where no frame is set, all are free
  pub counted_all_free : ((x : ℕ) → x < frame_count key → bit_of key ws x ≡ 0) → IsAllFree key ws
  counted_all_free clear =
      let none : (c : ℕ) → c < key.children → free_of ws c ≡ 512 =
      λ c h. omega (arith, f.free c h, set_none key ws c r h (λ x e. clear x (omega arith))) in
      record {
        free = none;
        huge = f.huge;
        bits = λ w h. word_none key ws w (r.bits w h) (λ x e. clear x (omega arith));
        trees = λ t h. omega (
          arith,
          f.trees t h,
          range_all (free_of ws) 512 (8 * t) (children_in key t) (λ c l u. none c (omega arith)),
        );
        unreserved = f.unreserved;
        resting = f.resting;
      }

no_boot_by : (end x : ℕ) → x < end
    → ◌≡◌ {A = ℕ} (if nat_le end x || list_any (is_in_range x) [] then 1 else 0) 0
no_boot_by end x h = grind (arith, nat_tests)

no_boot : (key : Key) (x : ℕ) → key.ranges ≡ [] → x < key.frames
    → ◌≡◌ {A = ℕ} (if is_boot_frame key x then 1 else 0) 0
unfolding is_boot_frame
no_boot key x e h =
    ap (λ (rs : List (ℕ × ℕ)). if nat_le key.frames x || list_any (is_in_range x) rs then 1 else 0) e
    ∙ no_boot_by key.frames x h

-- a sealed opening of a memory that ends with a child, and holds no range back
pub whole_all_free : (key : Key) (ws : List ℕ) → IsSealedOpening key ws → key.frames ≡ frame_count key
    → key.ranges ≡ [] → IsAllFree key ws
unfolding rebuilt_free rebuilt_in_tree
whole_all_free key ws o whole none =
    let clear : (x : ℕ) → x < frame_count key → bit_of key ws x ≡ 0 =
    λ x h. o.boot_frames x h ∙ no_boot key x none (omega (arith, whole)) in
    let left : (c : ℕ) → c < key.children → rebuilt_free key ws c ≡ 512 =
    λ c h. rw (o.unflagged c h, set_none key ws c o.exact.in_range h (λ x e. clear x (omega arith))) refl in
    record {
      free = λ c h. o.exact.free c h ∙ left c h;
      huge = o.unflagged;
      bits = λ w h. word_none key ws w (o.exact.in_range.bits w h) (λ x e. clear x (omega arith));
      trees = λ t h. omega (
        arith,
        o.exact.trees t h,
        range_all (rebuilt_free key ws) 512 (8 * t) (children_in key t) (λ c l u. left c (omega arith)),
      );
      unreserved = o.exact.unreserved;
      resting = o.exact.resting;
    }

-- The words of a memory do not depend on the ranges that its key names.
module _ (key : Key) (rs : List (ℕ × ℕ)) (ws : List ℕ) where
  pub counted_ranged : IsCountedBelow key ws key.children (tree_count key)
      → IsCountedBelow (record key { ranges = rs }) ws key.children (tree_count key)
  unfolding tree_place local_place bits_place tree_free_of reserved_of tree_word_of rest_of local_word_of set_of
  counted_ranged f = record {
    free = f.free;
    huge = f.huge;
    trees = f.trees;
    unreserved = f.unreserved;
    resting = f.resting;
  }

  pub bit_ranged : (x : ℕ) → bit_of (record key { ranges = rs }) ws x ≡ bit_of key ws x
  unfolding bits_place bit_word_of bit_of
  bit_ranged x = refl

-- counted words in which just the frames past the end and those of the ranges are set
pub counted_opens : (key : Key) (rs : List (ℕ × ℕ)) (ws : List ℕ) → key.sealed ≡ true → AreInRange key ws
    → IsCountedBelow key ws key.children (tree_count key)
    → ((x : ℕ) → x < frame_count key → bit_of key ws x ≡ (if is_boot_frame (record key { ranges = rs }) x then 1 else 0))
    → IsSealedOpening (record key { ranges = rs }) ws
counted_opens key rs ws sealed r f bits = record {
  sealed = sealed;
  exact = counted_exact (record key { ranges = rs }) ws (in_range_held_back key rs key.sealed ws r) (counted_ranged key rs ws f);
  unflagged = f.huge;
  boot_frames = λ x h. bit_ranged key rs ws x ∙ bits x h;
}
