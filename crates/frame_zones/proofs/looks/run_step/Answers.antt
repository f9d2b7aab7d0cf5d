use Rattle.std.proofs.Common.{suc, arith}
use Rattle.std.proofs.Math.Nat.{pow-suc}
use Rattle.frame_zones.proofs.looks.run_step.Goals as goal

pub loop-step-preserved : goal.loop-step-preserved
loop-step-preserved c =
    let was = c.loop-step.invariant in
    let more = pow-suc 2 was.0 in
    (suc was.0, (omega (arith, was.1.0, was.1.1, more, c.loop-step-test.true, c.from.ensures), omega (arith, was.1.1, more)))
