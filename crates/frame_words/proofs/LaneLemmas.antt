-- Four entries in a word: what one lane holds after a write, and what the others hold.
use Rattle.std.proofs.Common.{◌≡◌, ◌≢◌, ℕ, zero, suc, ◌+◌, ◌-◌, ◌*◌, ◌/◌, ◌%◌, ◌^◌, ◌<◌, ◌≤◌, refl, ap, arith}
use Rattle.frame_words.specs.Words.{lane_shift, lane_in, lane_put}

-- what holds of each place from 0 to 3 holds of any
at_place : (P : ℕ → Type 0) (n : ℕ) → n < 4 → P 0 → P 1 → P 2 → P 3 → P n
at_place P zero h a b c d = a
at_place P (suc zero) h a b c d = b
at_place P (suc (suc zero)) h a b c d = c
at_place P (suc (suc (suc zero))) h a b c d = d
at_place P (suc (suc (suc (suc n)))) h a b c d = absurd (omega arith)

-- what holds of each of the four shifts holds of a child's
by_lane : (P : ℕ → Type 0) (c : ℕ) → P 1 → P (2 ^ 16) → P (2 ^ 32) → P (2 ^ 48) → P (lane_shift c)
unfolding lane_shift
by_lane P c p q r s = at_place (λ n. P (2 ^ (16 * n))) (c % 4) (omega arith) p q r s

-- the word w after e is written at the shift s
abbrev written : ℕ → ℕ → ℕ → ℕ
written w s e = w - w / s % 2 ^ 16 * s + e * s

-- a write at the place n leaves the lane at the place m
abbrev OtherStays : ℕ → ℕ → ℕ → ℕ → Type 0
OtherStays w e n m =
    m ≢ n → written w (2 ^ (16 * n)) e / 2 ^ (16 * m) % 2 ^ 16 ≡ w / 2 ^ (16 * m) % 2 ^ 16

other_stays : (w e n m : ℕ) → e < 2 ^ 16 → n < 4 → m < 4 → OtherStays w e n m
other_stays w e n m small nb mb =
    at_place (λ n. OtherStays w e n m) n nb
    (at_place (λ m. OtherStays w e 0 m) m mb (λ ne. omega arith) (λ ne. omega arith) (λ ne. omega arith) (λ ne. omega arith))
    (at_place (λ m. OtherStays w e 1 m) m mb (λ ne. omega arith) (λ ne. omega arith) (λ ne. omega arith) (λ ne. omega arith))
    (at_place (λ m. OtherStays w e 2 m) m mb (λ ne. omega arith) (λ ne. omega arith) (λ ne. omega arith) (λ ne. omega arith))
    (at_place (λ m. OtherStays w e 3 m) m mb (λ ne. omega arith) (λ ne. omega arith) (λ ne. omega arith) (λ ne. omega arith))

-- a lane holds 16 bits
pub lane_in-lt : (w c : ℕ) → lane_in w c < 2 ^ 16
unfolding lane_in
lane_in-lt w c = omega arith

-- a word of no entries
pub lane_in-zero : (c : ℕ) → lane_in 0 c ≡ 0
unfolding lane_in
lane_in-zero c = by_lane (λ s. 0 / s % 2 ^ 16 ≡ 0) c refl refl refl refl

-- children at the same place of two words that are equal
pub lane_in-place : (w c d : ℕ) → d % 4 ≡ c % 4 → lane_in w d ≡ lane_in w c
unfolding lane_in lane_shift
lane_in-place w c d e = ap (λ n. w / 2 ^ (16 * n) % 2 ^ 16) e

-- an entry where it stands is part of its word
pub lane_in-within : (w c : ℕ) → lane_in w c * lane_shift c ≤ w
unfolding lane_in
lane_in-within w c =
    by_lane (λ s. w / s % 2 ^ 16 * s ≤ w) c (omega arith) (omega arith) (omega arith) (omega arith)

-- what fits a lane does not reach past the word
pub lane_shift-fits : (c e : ℕ) → e < 2 ^ 16 → e * lane_shift c < 2 ^ 64
lane_shift-fits c e small =
    by_lane (λ s. e * s < 2 ^ 64) c (omega arith) (omega arith) (omega arith) (omega arith)

-- an entry that was shifted to its lane has kept all its bits
pub lane_shift-shl : (c e : ℕ) → e < 2 ^ 16 → e * 2 ^ (16 * (c % 4)) % 2 ^ 64 ≡ e * lane_shift c
unfolding lane_shift
lane_shift-shl c e small = omega (arith, lane_shift-fits c e small)

-- the lane that was written
pub lane_in-lane_put : (w c e : ℕ) → e < 2 ^ 16 → lane_in (lane_put w c e) c ≡ e
unfolding lane_in lane_put
lane_in-lane_put w c e small =
    by_lane (λ s. written w s e / s % 2 ^ 16 ≡ e) c
    (omega arith) (omega arith) (omega arith) (omega arith)

-- a lane of another place
pub lane_in-lane_put_other : (w c d e : ℕ) → e < 2 ^ 16 → d % 4 ≢ c % 4
    → lane_in (lane_put w c e) d ≡ lane_in w d
unfolding lane_in lane_put lane_shift
lane_in-lane_put_other w c d e small ne =
    other_stays w e (c % 4) (d % 4) small (omega arith) (omega arith) ne

-- a word stays a word
pub lane_put-lt : (w c e : ℕ) → w < 2 ^ 64 → e < 2 ^ 16 → lane_put w c e < 2 ^ 64
unfolding lane_in lane_put
lane_put-lt w c e fits small =
    by_lane (λ s. written w s e < 2 ^ 64) c (omega arith) (omega arith) (omega arith) (omega arith)

-- the last of two writes to a lane
pub lane_put-twice : (w c d e : ℕ) → d < 2 ^ 16 → lane_put (lane_put w c d) c e ≡ lane_put w c e
unfolding lane_put
lane_put-twice w c d e small =
    omega (arith, ap (λ n. n * lane_shift c) (lane_in-lane_put w c d small), lane_in-within w c)

-- what stands there already
pub lane_put-same : (w c : ℕ) → lane_put w c (lane_in w c) ≡ w
unfolding lane_put
lane_put-same w c = omega (arith, lane_in-within w c)

-- n more in a lane that has room for them
pub lane_put-add : (w c n : ℕ) → w + n * lane_shift c ≡ lane_put w c (lane_in w c + n)
unfolding lane_put
lane_put-add w c n = omega (arith, lane_in-within w c)

-- n less in a lane that has them
pub lane_put-sub : (w c n : ℕ) → n ≤ lane_in w c
    → w - n * lane_shift c ≡ lane_put w c (lane_in w c - n)
unfolding lane_in lane_put
lane_put-sub w c n enough =
    by_lane (λ s. n ≤ w / s % 2 ^ 16 → w - n * s ≡ written w s (w / s % 2 ^ 16 - n)) c
    (λ h. omega arith) (λ h. omega arith) (λ h. omega arith) (λ h. omega arith) enough

-- two words whose four lanes are equal
pub same_lanes : (v w : ℕ) → v < 2 ^ 64 → w < 2 ^ 64 → ((c : ℕ) → c < 4 → lane_in v c ≡ lane_in w c)
    → v ≡ w
unfolding lane_in lane_shift
same_lanes v w vf wf same =
    let a : v / 1 % 2 ^ 16 ≡ w / 1 % 2 ^ 16 = same 0 (omega arith) in
    let b : v / 2 ^ 16 % 2 ^ 16 ≡ w / 2 ^ 16 % 2 ^ 16 = same 1 (omega arith) in
    let c : v / 2 ^ 32 % 2 ^ 16 ≡ w / 2 ^ 32 % 2 ^ 16 = same 2 (omega arith) in
    let d : v / 2 ^ 48 % 2 ^ 16 ≡ w / 2 ^ 48 % 2 ^ 16 = same 3 (omega arith) in
    omega arith
