-- Words that are all 0: nothing is held, and nothing is counted as free.
use Rattle.std.proofs.Common.{◌≡◌, ⊎_elim, ℕ, ◌+◌, ◌*◌, List, length, get_or, replicate, refl, ap, sym, subst, ◌∙◌, arith, None}
use Rattle.std.proofs.lemmas.Bool.{cases_lt}
use Rattle.std.proofs.lemmas.List.{get_or-replicate, get_or_past, length-replicate}
use Rattle.frame_words.specs.Words.{free_in, flag_in, lane_in, rest_in, local_word}
use Rattle.frame_words.proofs.LaneLemmas.{lane_in-zero}
use Rattle.frame_words.proofs.WordLemmas.{free_in-zero, flag_in-zero, rest_in-zero}
use Rattle.frame_model.specs.declared.key.Key.{Key}
use Rattle.frame_model.specs.Key.{tree_count}
use Rattle.frame_model.specs.Words.{entry_place, tree_place, local_place, bits_place, word_count, entry_of, free_of, huge_of, tree_word_of}
use Rattle.frame_model.specs.Words.{tree_free_of, reserved_of, local_word_of, rest_of, bit_word_of, IsRest, AreInRange}

-- every word of a list of zeros is 0
pub get_or-zeros : (n i : ℕ) → get_or (replicate {A = ℕ} n 0) i 0 ≡ 0
get_or-zeros n i =
    ⊎_elim (λ h. get_or-replicate n i 0 0 h) (λ h. get_or_past (replicate {A = ℕ} n 0) i 0 (omega (arith, length-replicate {A = ℕ} n 0)))
    (cases_lt i n)

pub local_word-none : local_word None ≡ 0
unfolding local_word
local_word-none = refl

-- What the readers say where every word is 0.

module _ (key : Key) (ws : List ℕ) (zero : (i : ℕ) → get_or ws i 0 ≡ 0) where
  entry_zero : (c : ℕ) → entry_of ws c ≡ 0
  unfolding entry_of
  entry_zero c = ap (λ n. lane_in n c) (zero (entry_place c)) ∙ lane_in-zero c

  pub free_zero : (c : ℕ) → free_of ws c ≡ 0
  unfolding free_of
  free_zero c = ap free_in (entry_zero c) ∙ free_in-zero

  pub huge_zero : (c : ℕ) → huge_of ws c ≡ 0
  unfolding huge_of
  huge_zero c = ap flag_in (entry_zero c) ∙ flag_in-zero

  pub tree_free_zero : (t : ℕ) → tree_free_of key ws t ≡ 0
  unfolding tree_free_of tree_word_of
  tree_free_zero t = ap free_in (zero (tree_place key t)) ∙ free_in-zero

  pub reserved_zero : (t : ℕ) → reserved_of key ws t ≡ 0
  unfolding reserved_of tree_word_of
  reserved_zero t = ap flag_in (zero (tree_place key t)) ∙ flag_in-zero

  local_zero : (k : ℕ) → local_word_of key ws k ≡ 0
  unfolding local_word_of
  local_zero k = zero (local_place key k)

  pub rest_zero : (k : ℕ) → rest_of key ws k ≡ None
  unfolding rest_of
  rest_zero k = ap rest_in (local_zero k) ∙ rest_in-zero

  pub bits_zero : (w : ℕ) → bit_word_of key ws w ≡ 0
  unfolding bit_word_of
  bits_zero w = zero (bits_place key w)

  -- so many words, all 0, have the layout of a table
  pub zero_in_range : length ws ≡ word_count key → AreInRange key ws
  zero_in_range len = record {
    count = len;
    anchor = λ i q. zero i;
    entry_words = λ c q. omega (arith, zero (entry_place c));
    free = λ c q. omega (arith, free_zero c);
    huge = λ c q. omega (arith, huge_zero c);
    absent = λ c l q. entry_zero c;
    behind = λ u i q l m. zero (entry_place (8 * u) + i);
    tree_free = λ t q. omega (arith, tree_free_zero t);
    reserved = λ t q. omega (arith, reserved_zero t);
    locals = λ k q. local_zero k ∙ sym (ap local_word (rest_zero k) ∙ local_word-none);
    rests = λ k q. subst (IsRest key) (sym (rest_zero k)) tt;
    bits = λ w q. omega (arith, bits_zero w);
    between = λ i q. zero (tree_place key (tree_count key) + i);
    beside = λ k i q l m. zero (local_place key k + i);
  }

-- as many zeros as a table has words: nothing was counted yet
pub zeros_in_range : (key : Key) → AreInRange key (replicate (word_count key) 0)
zeros_in_range key =
    zero_in_range key (replicate (word_count key) 0) (get_or-zeros (word_count key)) (length-replicate (word_count key) 0)
