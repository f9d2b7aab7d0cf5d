use Rattle.std.proofs.Common.{◌≡◌, ◌+◌, ◌*◌, ◌/◌, ◌≤◌, vec_len, vec_capacity}
use Rattle.low_frames.specs.Bounds.{attempt}
use Rattle.low_frames.specs.Singles.{TakesSingles, HasTakenSome}
use Rattle.low_frames.specs.SinglesAlone.{ClaimsUpTo}
use Rattle.low_frames.proofs.singles.take_charged.Given as goal

abbrev pub invariant-loop-i : goal.invariant-loop-i
invariant-loop-i g l =
    let M = g.M.Moves in
    record {
      takes : TakesSingles g.M.Held.HeldBlock.block_of M.is_exact (l.fn.child / 8) (attempt * l.i + l.got)
          (HasTakenSome l.fn.child l.got) (ClaimsUpTo (M.at l.fn.m).key (512 * l.fn.child) (64 * l.i) l.got l.fn.n) l.got l.fn.out.items
          l.out.items (M.at l.fn.m) (M.at l.m);
      few : l.got ≤ l.fn.n;
      len : vec_len l.out ≡ vec_len l.fn.out + l.got;
      cap : vec_capacity l.out ≡ vec_capacity l.fn.out;
    }
