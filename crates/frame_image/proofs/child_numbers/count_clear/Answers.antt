use Rattle.std.proofs.Common.{◌≡◌, ◌+◌, ℕ, get_or, ap, arith}
use Rattle.frame_model.proofs.Sums.{range_more}
use Rattle.frame_image.proofs.child_numbers.count_clear.Goals as goal

pub loop-block-preserved : goal.loop-block-preserved
loop-block-preserved c =
    let f : ℕ → ℕ = λ i. get_or c.args.clear.now i 0 in
    let block : ℕ = c.loop-block.block in
    let place : 0 + block ≡ block = omega arith in
    let inv = c.loop-block.invariant in
    record {
      counted = omega (arith, inv.counted, c.from-count.ensures, range_more f 0 block, ap f place);
      small = omega (arith, inv.small, c.from-count.ensures, c.fits-clear block);
    }
