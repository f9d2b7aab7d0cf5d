-- A bit is set, and those that were stay so.
use Rattle.std.proofs.Common.{◌≡◌, ⊎_elim, ℕ, ◌*◌, ◌/◌, ◌%◌, ◌^◌, ◌<◌, List, length, sym, ap, ◌∙◌, arith}
use Rattle.std.specs.Prelude.{bit_or, slice_index, slice_set}
use Rattle.std.specs.Int.{bit_at, w32}
use Rattle.std.proofs.lemmas.Bool.{cases_eq}
use Rattle.std.proofs.lemmas.List.{get_or-set_same, get_or-set_other}
use Rattle.std.proofs.lemmas.Nat.Bits.{bit_at_set_same, bit_at_set_other}
use Rattle.frame_slots.specs.SlotLists.{IsGap}

pub set_here : (bits : List ℕ) (x n : ℕ) → x < 32 * length bits
    → IsGap (slice_set bits (x / 32) (bit_or n (1 * 2 ^ (x % 32) % 2 ^ 32))) x
set_here bits x n less =
    let m : ℕ = bit_or n (1 * 2 ^ (x % 32) % 2 ^ 32) in
    ap (λ k. bit_at k (x % 32)) (get_or-set_same bits (x / 32) m 0 (omega (arith, less)))
    ∙ bit_at_set_same w32 n (x % 32) (omega arith)

pub set_keeps : (bits : List ℕ) (x y n : ℕ) → x < 32 * length bits → n ≡ slice_index bits (x / 32) → IsGap bits y
    → IsGap (slice_set bits (x / 32) (bit_or n (1 * 2 ^ (x % 32) % 2 ^ 32))) y
set_keeps bits x y n less is gap =
    let m : ℕ = bit_or n (1 * 2 ^ (x % 32) % 2 ^ 32) in
    ⊎_elim
    (λ same.
    let now : slice_index (slice_set bits (x / 32) m) (y / 32) ≡ m =
    ap (slice_index (slice_set bits (x / 32) m)) same ∙ get_or-set_same bits (x / 32) m 0 (omega (arith, less)) in
    let was : n ≡ slice_index bits (y / 32) = is ∙ sym (ap (slice_index bits) same) in
    ⊎_elim
    (λ bit. ap (λ k. bit_at k (y % 32)) now ∙ ap (bit_at m) bit ∙ bit_at_set_same w32 n (x % 32) (omega arith))
    (λ else. ap (λ k. bit_at k (y % 32)) now ∙ bit_at_set_other w32 n (x % 32) (omega arith) (y % 32) else
    ∙ ap (λ k. bit_at k (y % 32)) was ∙ gap)
    (cases_eq (y % 32) (x % 32)))
    (λ else. ap (λ k. bit_at k (y % 32)) (get_or-set_other bits (x / 32) (y / 32) m 0 else) ∙ gap)
    (cases_eq (y / 32) (x / 32))
