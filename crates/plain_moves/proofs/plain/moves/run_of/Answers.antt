use Rattle.std.proofs.Common.{◌^◌, ap, ◌∙◌, arith}
use Rattle.std.specs.Int.Count.{ones}
use Rattle.frame_model.proofs.Bits.{ones_run}
use Rattle.plain_moves.proofs.PlainOwn.{run_from, run_order}
use Rattle.plain_moves.proofs.plain.moves.run_of.Goals as goal

pub returns : goal.returns
returns c =
    let size = ap ones c.requires.1.1.0 ∙ ones_run c.requires.0 (2 ^ c.requires.1.0) in
    λ from order e. (
      run_from c.args.mask from order c.ranges.mask.fits e,
      run_order c.args.mask from order
          (omega (arith, size, c.requires.1.1.1)) e,
    )
