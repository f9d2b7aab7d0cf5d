use Rattle.std.proofs.Common.{sym, arith}
use Rattle.frame_model.proofs.Blocks.{wholes_none}
use Rattle.plain_moves.proofs.Checks.{wholes_more}
use Rattle.plain_moves.proofs.plain.contents.count_wholes.Goals as goal

pub loop-i-init : goal.loop-i-init
loop-i-init c = record { count = sym (wholes_none c.args.child); few = omega arith }

pub loop-i-preserved : goal.loop-i-preserved
loop-i-preserved c =
    let more = wholes_more c.args.child c.args.blocks.now.items c.loop-i.i c.index.result.now
    (omega (arith, c.loop-i-test.true, c.len-i-end.ensures, c.args.blocks.now.ok)) c.index.ensures in
    record {
      count = omega (arith, more, c.loop-i.invariant.count, c.whole_in-count.ensures.value);
      few = omega (arith, c.loop-i.invariant.few, c.whole_in-count.ensures.few);
    }
