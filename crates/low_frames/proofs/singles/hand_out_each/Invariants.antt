use Rattle.std.proofs.Common.{◌≡◌, ℕ, ◌+◌, ◌-◌, ◌/◌, ◌^◌, ◌<◌, ◌≤◌, vec_len, vec_capacity}
use Rattle.std.specs.Int.{bit_at}
use Rattle.std.specs.Int.Count.{ones}
use Rattle.frame_model.proofs.Blocks.{AreAt}
use Rattle.low_frames.specs.Singles.{TakesSingles}
use Rattle.low_frames.proofs.SinglesLemmas.{HasHandedOutBut}
use Rattle.low_frames.proofs.SinglesAlone.{AreBut}
use Rattle.low_frames.proofs.singles.hand_out_each.Given as goal

abbrev pub invariant-loop-rest : goal.invariant-loop-rest
invariant-loop-rest g l =
    let M = g.M.Moves in
    let m = M.at l.fn.m in
    let now = M.at l.m in
    let n = ones l.fn.mask - ones l.rest in
    record {
      takes : TakesSingles g.M.Held.HeldBlock.block_of M.is_exact (l.fn.word / 8 / 8) n (HasHandedOutBut n)
          (λ bs ws us. (us ≡ ws) × AreBut l.fn.word l.rest l.fn.mask bs) n l.fn.out.items l.out.items m now;
      own : AreAt m.key l.fn.word l.rest now.view.own;
      fits : l.rest < 2 ^ 64;
      among : (i : ℕ) → bit_at l.rest i ≤ bit_at l.fn.mask i;
      few : ones l.rest ≤ ones l.fn.mask;
      len : vec_len l.out + ones l.rest ≡ vec_len l.fn.out + ones l.fn.mask;
      cap : vec_capacity l.out ≡ vec_capacity l.fn.out;
    }

abbrev pub decreases-loop-rest : goal.decreases-loop-rest
decreases-loop-rest g l = l.rest
