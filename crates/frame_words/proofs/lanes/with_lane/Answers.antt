-- The entry taken off and the one put in keep all their bits, so the sum is the word of the clauses.
use Rattle.std.proofs.Common.{◌≡◌, ℕ, ◌%◌, ◌^◌, ◌<◌, ◌≤◌, ◌+◌, ◌-◌, ◌*◌, ap, ◌∙◌, arith}
use Rattle.frame_words.specs.Words.{lane_in, lane_put, lane_shift}
use Rattle.frame_words.proofs.LaneLemmas.{lane_in-lane_put, lane_in-lane_put_other, lane_in-lt, lane_in-within, lane_put-lt, lane_shift-shl}
use Rattle.frame_words.proofs.lanes.with_lane.Goals as goal

-- the entry that stood there is part of the word
part : (w c l : ℕ) → l ≡ lane_in w c → l * 2 ^ (16 * (c % 4)) % 2 ^ 64 ≤ w
part w c l is =
    omega (arith, lane_shift-shl c l (omega (arith, lane_in-lt w c)), ap (λ n. n * lane_shift c) is, lane_in-within w c)

-- the word that is written
put : (w c l e : ℕ) → l ≡ lane_in w c → e < 2 ^ 16
    → w - l * 2 ^ (16 * (c % 4)) % 2 ^ 64 + e * 2 ^ (16 * (c % 4)) % 2 ^ 64 ≡ lane_put w c e
unfolding lane_put
put w c l e is small =
    omega (arith, lane_shift-shl c l (omega (arith, lane_in-lt w c)), ap (λ n. n * lane_shift c) is, lane_shift-shl c e small)

pub overflow_sub-result : goal.overflow_sub-result
overflow_sub-result c = part c.args.word c.args.child c.lane.result c.lane.ensures.value

pub overflow_add-result : goal.overflow_add-result
overflow_add-result c =
    let is = put c.args.word c.args.child c.lane.result c.args.entry c.lane.ensures.value c.requires in
    omega (arith, is, lane_put-lt c.args.word c.args.child c.args.entry (omega arith) c.requires)

pub returns-clause-word : goal.returns-clause-word
returns-clause-word c =
    put c.args.word c.args.child c.lane.result c.args.entry c.lane.ensures.value c.requires

pub returns-clause-here : goal.returns-clause-here
returns-clause-here c =
    ap (λ w. lane_in w c.args.child) (put c.args.word c.args.child c.lane.result c.args.entry c.lane.ensures.value c.requires)
    ∙ lane_in-lane_put c.args.word c.args.child c.args.entry c.requires

pub returns-clause-others : goal.returns-clause-others
returns-clause-others c other ne =
    ap (λ w. lane_in w other) (put c.args.word c.args.child c.lane.result c.args.entry c.lane.ensures.value c.requires)
    ∙ lane_in-lane_put_other c.args.word c.args.child other c.args.entry c.requires ne
