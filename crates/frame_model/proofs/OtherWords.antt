-- What the readers of other places say after a write.
use Rattle.std.proofs.Common.{◌≡◌, ◌≢◌, ℕ, ◌*◌, ◌<◌, List, refl, ap, arith, get_or-set_other}
use Rattle.frame_words.specs.Words.{rest_in}
use Rattle.frame_model.specs.declared.key.Key.{Key}
use Rattle.frame_model.specs.Key.{tree_count}
use Rattle.frame_model.specs.Words.{entry_place, tree_place, local_place, bits_place, local_word_of, rest_of, bit_word_of}
use Rattle.frame_model.specs.Words.{with_entry, with_tree, with_local, with_bits}
use Rattle.frame_model.proofs.Words.{entry-lt-local, entry-lt-bits, tree-lt-local, tree-lt-bits, local-lt-bits, child-has-lane}

module _ (key : Key) (ws : List ℕ) where
  pub rest_of-with_entry : (c e k : ℕ) → c < key.children → rest_of key (with_entry ws c e) k ≡ rest_of key ws k
  unfolding rest_of local_word_of with_entry
  rest_of-with_entry c e k h =
      let lane : c < 8 * tree_count key = child-has-lane key c h in
      let ne : local_place key k ≢ entry_place c = (λ q. omega (arith, entry-lt-local key c k lane)) in
      ap rest_in (rw get_or-set_other refl)

  pub bit_word_of-with_entry : (c e w : ℕ) → c < key.children → bit_word_of key (with_entry ws c e) w ≡ bit_word_of key ws w
  unfolding bit_word_of with_entry
  bit_word_of-with_entry c e w h =
      let lane : c < 8 * tree_count key = child-has-lane key c h in
      let ne : bits_place key w ≢ entry_place c = (λ q. omega (arith, entry-lt-bits key c w lane)) in
      rw get_or-set_other refl

  pub rest_of-with_tree : (t n k : ℕ) → t < tree_count key → rest_of key (with_tree key ws t n) k ≡ rest_of key ws k
  unfolding rest_of local_word_of with_tree
  rest_of-with_tree t n k h =
      let ne : local_place key k ≢ tree_place key t = (λ q. omega (arith, tree-lt-local key t k h)) in
      ap rest_in (rw get_or-set_other refl)

  pub bit_word_of-with_tree : (t n w : ℕ) → t < tree_count key → bit_word_of key (with_tree key ws t n) w ≡ bit_word_of key ws w
  unfolding bit_word_of with_tree
  bit_word_of-with_tree t n w h =
      let ne : bits_place key w ≢ tree_place key t = (λ q. omega (arith, tree-lt-bits key t w h)) in
      rw get_or-set_other refl

  pub bit_word_of-with_local : (k n w : ℕ) → k < key.cores → bit_word_of key (with_local key ws k n) w ≡ bit_word_of key ws w
  unfolding bit_word_of with_local
  bit_word_of-with_local k n w h =
      let ne : bits_place key w ≢ local_place key k = (λ q. omega (arith, local-lt-bits key k w h)) in
      rw get_or-set_other refl

  pub rest_of-with_bits : (w n k : ℕ) → k < key.cores → rest_of key (with_bits key ws w n) k ≡ rest_of key ws k
  unfolding rest_of local_word_of with_bits
  rest_of-with_bits w n k h =
      let ne : local_place key k ≢ bits_place key w = (λ q. omega (arith, local-lt-bits key k w h)) in
      ap rest_in (rw get_or-set_other refl)
