use Rattle.std.proofs.Common.{◌≡◌, ◌+◌, ◌*◌, ◌≤◌, vec_len, vec_capacity}
use Rattle.low_frames.specs.Bounds.{most_in_child_singles}
use Rattle.low_frames.specs.Singles.{TakesSingles, HasLentSome}
use Rattle.low_frames.specs.SinglesAlone.{TakesUpTo}
use Rattle.low_frames.proofs.singles.take_some.Given as goal

abbrev pub invariant-loop-i : goal.invariant-loop-i
invariant-loop-i g l =
    let M = g.M.Moves in
    record {
      takes : TakesSingles g.M.Held.HeldBlock.block_of M.is_exact l.fn.tree (most_in_child_singles 0 * l.i + l.got)
          (HasLentSome l.fn.tree l.got) (TakesUpTo (M.at l.fn.m).key (4096 * l.fn.tree) (512 * l.i) l.got l.fn.n) l.got l.fn.out.items
          l.out.items (M.at l.fn.m) (M.at l.m);
      few : l.got ≤ l.fn.n;
      len : vec_len l.out ≡ vec_len l.fn.out + l.got;
      cap : vec_capacity l.out ≡ vec_capacity l.fn.out;
    }
