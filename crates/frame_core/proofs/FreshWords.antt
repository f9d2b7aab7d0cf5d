-- Words that are all 0: no frame is set, and nothing was counted yet.
use Rattle.std.proofs.Common.{◌≡◌, ℕ, ◌/◌, ◌%◌, List, get_or, replicate, ap, ◌∙◌}
use Rattle.std.specs.Int.{bit_at}
use Rattle.std.proofs.lemmas.Nat.Bits.{bit_at-zero}
use Rattle.frame_model.specs.declared.key.Key.{Key}
use Rattle.frame_model.specs.Words.{word_count, bit_of}
use Rattle.frame_core.specs.Image.{IsUncounted}
use Rattle.frame_model.proofs.Zeros.{get_or-zeros, zeros_in_range, huge_zero, tree_free_zero, reserved_zero, rest_zero, bits_zero}

pub zeros_uncounted : (key : Key) → IsUncounted key (replicate (word_count key) 0)
zeros_uncounted key =
    let ws : List ℕ = replicate (word_count key) 0 in
    let zero : (i : ℕ) → get_or ws i 0 ≡ 0 = get_or-zeros (word_count key) in
    record {
      in_range = zeros_in_range key;
      huge = λ d q. huge_zero key ws zero d;
      trees = λ u q. tree_free_zero key ws zero u;
      unreserved = λ u q. reserved_zero key ws zero u;
      resting = λ k q. rest_zero key ws zero k;
    }

-- no frame is set
pub zeros_clear : (key : Key) (x : ℕ) → bit_of key (replicate (word_count key) 0) x ≡ 0
unfolding bit_of
zeros_clear key x =
    ap (λ n. bit_at n (x % 64)) (bits_zero key (replicate (word_count key) 0) (get_or-zeros (word_count key)) (x / 64))
    ∙ bit_at-zero (x % 64)
