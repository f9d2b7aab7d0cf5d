-- Groups of clear words in a list: how they are told, and how many bits they leave.
use Rattle.std.proofs.Common.{◌≡◌, ⊎_elim, ℕ, ◌+◌, ◌<◌, ◌≤◌, List, get_or, ap, arith}
use Rattle.std.proofs.lemmas.Bool.{cases_eq, cases_lt}
use Rattle.std.proofs.lemmas.Nat.{le_or_l, le_or_r}
use Rattle.std.specs.Int.Bits.{bit_or}

-- two words in a row
pub two_clear : (words : List ℕ) (first : ℕ)
    → bit_or (get_or words first 0) (get_or words (first + 1) 0) ≡ 0
    → (i : ℕ) → first ≤ i → i < first + 2 → get_or words i 0 ≡ 0
two_clear words first none i from before =
    let low : ℕ = get_or words first 0 in
    let high : ℕ = get_or words (first + 1) 0 in
    ⊎_elim
    (λ (here : i ≡ first). omega (arith, ap (λ k. get_or words k 0) here, le_or_l low high, none))
    (λ (other : i ≡ first → ⊥).
    let next : i ≡ first + 1 = omega arith in
    omega (arith, ap (λ k. get_or words k 0) next, le_or_r low high, none))
    (cases_eq i first)

-- four words in a row
pub four_clear : (words : List ℕ) (first : ℕ)
    → bit_or
    (bit_or (bit_or (get_or words first 0) (get_or words (first + 1) 0)) (get_or words (first + 2) 0))
    (get_or words (first + 3) 0) ≡ 0
    → (i : ℕ) → first ≤ i → i < first + 4 → get_or words i 0 ≡ 0
four_clear words first none i from before =
    let a : ℕ = get_or words first 0 in
    let b : ℕ = get_or words (first + 1) 0 in
    let c : ℕ = get_or words (first + 2) 0 in
    let d : ℕ = get_or words (first + 3) 0 in
    let three : bit_or (bit_or a b) c ≡ 0 = omega (arith, le_or_l (bit_or (bit_or a b) c) d, none) in
    let two : bit_or a b ≡ 0 = omega (arith, le_or_l (bit_or a b) c) in
    ⊎_elim
    (λ (low : i < first + 2). two_clear words first two i from low)
    (λ (high : first + 2 ≤ i). ⊎_elim
    (λ (here : i ≡ first + 2). omega (arith, ap (λ k. get_or words k 0) here, le_or_r (bit_or a b) c, three))
    (λ (other : i ≡ first + 2 → ⊥).
    let last : i ≡ first + 3 = omega arith in
    omega (arith, ap (λ k. get_or words k 0) last, le_or_r (bit_or (bit_or a b) c) d, none))
    (cases_eq i (first + 2)))
    (cases_lt i (first + 2))
