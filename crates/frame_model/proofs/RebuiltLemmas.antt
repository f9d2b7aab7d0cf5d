-- Rebuilding what was rebuilt changes nothing.
use Rattle.std.proofs.Common.{◌≡◌, ◌≢◌, ⊎_elim, ℕ, ◌+◌, ◌-◌, ◌*◌, ◌/◌, ◌%◌, ◌<◌, ◌≤◌, List, refl, ap, sym, ◌∙◌, arith}
use Rattle.std.specs.Int.{bit_at}
use Rattle.std.proofs.lemmas.Bool.{cases_eq}
use Rattle.std.proofs.lemmas.Bool.Decides.{nat_tests}
use Rattle.frame_model.specs.declared.key.Key.{Key}
use Rattle.frame_model.specs.Key.{tree_count, children_in}
use Rattle.frame_model.specs.Words.{huge_of, bit_word_of, bit_of, set_of, AreInRange}
use Rattle.frame_model.specs.Rebuilt.{rebuilt_free, rebuilt_in_tree, rebuilt_bits, IsRebuilt}
use Rattle.frame_model.proofs.Sums.{range_same}
use Rattle.frame_model.proofs.ReportLemmas.{bits_of_child}

-- The two cases of each word, by the flag of its child.

module _ (key : Key) (ws : List ℕ) where
  pub rebuilt_free-set : (c : ℕ) → huge_of ws c ≡ 0 → rebuilt_free key ws c ≡ 512 - set_of key ws c
  unfolding rebuilt_free
  rebuilt_free-set c e = grind (arith, nat_tests)

  pub rebuilt_free-huge : (c : ℕ) → huge_of ws c ≢ 0 → rebuilt_free key ws c ≡ 0
  unfolding rebuilt_free
  rebuilt_free-huge c ne = grind (arith, nat_tests)

  pub rebuilt_bits-set : (w : ℕ) → huge_of ws (w / 8) ≡ 0 → rebuilt_bits key ws w ≡ bit_word_of key ws w
  unfolding rebuilt_bits
  rebuilt_bits-set w e = grind (arith, nat_tests)

  pub rebuilt_bits-huge : (w : ℕ) → huge_of ws (w / 8) ≢ 0 → rebuilt_bits key ws w ≡ 0
  unfolding rebuilt_bits
  rebuilt_bits-huge w ne = grind (arith, nat_tests)

module _ (key : Key) (old new : List ℕ) (r : IsRebuilt key old new) (i : AreInRange key old) where
  huge_stays : (c : ℕ) → c < key.children → huge_of old c ≢ 0 → huge_of new c ≢ 0
  huge_stays c h ne e = ne (sym (r.huge c h) ∙ e)

  bits_stay : (w : ℕ) → w < 8 * key.children → huge_of old (w / 8) ≡ 0 → bit_word_of key new w ≡ bit_word_of key old w
  bits_stay w h e = r.bits w h ∙ rebuilt_bits-set key old w e

  bit_stays : (d : ℕ) → d / 64 < 8 * key.children → huge_of old (d / 64 / 8) ≡ 0 → bit_of key new d ≡ bit_of key old d
  unfolding bit_of
  bit_stays d h e = ap (λ n. bit_at n (d % 64)) (bits_stay (d / 64) h e)

  set_stays : (c : ℕ) → c < key.children → huge_of old c ≡ 0 → set_of key new c ≡ set_of key old c
  set_stays c h e =
      sym (bits_of_child key new r.in_range c h)
      ∙ range_same (bit_of key old) (bit_of key new) (512 * c) 512
      (λ d l q. bit_stays d (omega arith) (ap (huge_of old) (child_is d (omega arith) (omega arith)) ∙ e))
      ∙ bits_of_child key old i c h
    where
      child_is : (d : ℕ) → 512 * c ≤ d → d < 512 * c + 512 → d / 64 / 8 ≡ c
      child_is d l q = omega arith

  -- what rebuilding counts as free, counted once more
  pub rebuilt_free-again : (c : ℕ) → c < key.children → rebuilt_free key new c ≡ rebuilt_free key old c
  rebuilt_free-again c h =
      ⊎_elim
      (λ e. omega (arith, rebuilt_free-set key new c (r.huge c h ∙ e), rebuilt_free-set key old c e, set_stays c h e))
      (λ ne. rebuilt_free-huge key new c (huge_stays c h ne) ∙ sym (rebuilt_free-huge key old c ne))
      (cases_eq (huge_of old c) 0)

  rebuilt_bits-again : (w : ℕ) → w < 8 * key.children → bit_word_of key new w ≡ rebuilt_bits key new w
  rebuilt_bits-again w h =
      ⊎_elim
      (λ e. sym (rebuilt_bits-set key new w (r.huge (w / 8) (omega arith) ∙ e)))
      (λ ne. r.bits w h ∙ rebuilt_bits-huge key old w ne ∙ sym (rebuilt_bits-huge key new w (huge_stays (w / 8) (omega arith) ne)))
      (cases_eq (huge_of old (w / 8)) 0)

  rebuilt_in_tree-again : (t : ℕ) → t < tree_count key → rebuilt_in_tree key new t ≡ rebuilt_in_tree key old t
  unfolding rebuilt_in_tree
  rebuilt_in_tree-again t h =
      range_same (rebuilt_free key old) (rebuilt_free key new) (8 * t) (children_in key t) (λ d l q. rebuilt_free-again d (omega arith))

  -- what was rebuilt stays as it is when it is rebuilt
  pub IsRebuilt-again : IsRebuilt key new new
  IsRebuilt-again = record {
    in_range = r.in_range;
    huge = λ c h. refl;
    free = λ c h. r.free c h ∙ sym (rebuilt_free-again c h);
    bits = rebuilt_bits-again;
    trees = λ t h. r.trees t h ∙ sym (rebuilt_in_tree-again t h);
    unreserved = r.unreserved;
    resting = r.resting;
  }
