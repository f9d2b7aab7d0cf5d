use Rattle.std.proofs.Common.{◌≡◌, ◌+◌, ◌-◌, ◌*◌, ℕ, arith, ap}
use Rattle.std.specs.List.{sum_by, range_with_len}
use Rattle.frame_model.specs.Words.{free_of}
use Rattle.frame_model.proofs.Sums.{range_more}
use Rattle.frame_core.proofs.image.Image.free_frames.Goals as goal

pub loop-child-preserved : goal.loop-child-preserved
loop-child-preserved c =
    let f : ℕ → ℕ = free_of c.args.self.now.words in
    let first : ℕ = 8 * c.args.tree in
    let n : ℕ = c.loop-child.child - first in
    let inv = c.loop-child.invariant in
    let here : first + n ≡ c.loop-child.child = omega (arith, c.loop-child.auto.child) in
    let next : c.loop-child.child + 1 - first ≡ n + 1 = omega (arith, c.loop-child.auto.child) in
    record {
      counted = omega (
        arith,
        inv.counted,
        c.free-free.ensures.value,
        range_more f first n,
        ap f here,
        ap (λ m. sum_by f (range_with_len first m)) next,
      );
      limit = omega (arith, inv.limit, c.free-free.ensures.limit, next);
    }
