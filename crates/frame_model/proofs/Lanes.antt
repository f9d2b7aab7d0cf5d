-- An atomic sum on the word of four entries, as a change of one lane.
use Rattle.std.proofs.Common.{◌≡◌, ℕ, ◌+◌, ◌-◌, ◌*◌, ◌%◌, ◌^◌, ◌<◌, ◌≤◌, arith, mul-le-mul_right}
use Rattle.frame_words.specs.Words.{lane_shift, lane_in, lane_put}
use Rattle.frame_words.proofs.LaneLemmas.{lane_in-within, lane_put-add, lane_put-sub, lane_put-lt}

-- a fetch-add that stays in its lane
pub lane_added : (w c n : ℕ) → w < 2 ^ 64 → lane_in w c + n < 65536
    → (w + n * lane_shift c) % 2 ^ 64 ≡ lane_put w c (lane_in w c + n)
lane_added w c n f l = omega (arith, lane_put-add w c n, lane_put-lt w c (lane_in w c + n) f l)

-- a fetch-sub that stays in its lane
pub lane_taken : (w c n : ℕ) → w < 2 ^ 64 → n ≤ lane_in w c
    → (w + (2 ^ 64 - n * lane_shift c)) % 2 ^ 64 ≡ lane_put w c (lane_in w c - n)
lane_taken w c n f l =
    let less : n * lane_shift c ≤ lane_in w c * lane_shift c = mul-le-mul_right (lane_shift c) l in
    omega (arith, lane_put-sub w c n l, lane_in-within w c, less)
