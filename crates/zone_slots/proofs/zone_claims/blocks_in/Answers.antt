use Rattle.std.proofs.Common.{arith}
use Rattle.zone_slots.proofs.Claiming.{none_within, all_within}
use Rattle.zone_slots.proofs.zone_claims.blocks_in.Goals as goal

pub loop-i-init : goal.loop-i-init
loop-i-init c =
    none_within (c.args.first, c.args.frames) c.args.blocks.now c.new-own.result.items c.begin_below-i.result
    c.begin_below-i.ensures c.new-own.ensures.items

pub returns-then-from-end-clause-blocks : goal.returns-then-from-end-clause-blocks
returns-then-from-end-clause-blocks c =
    all_within (c.args.first, c.args.frames) c.args.blocks.now c.loop-i.own.items c.loop-i.i c.requires.ascend
    c.loop-i-test.true
    (omega (arith, c.if-from-end.true, c.from.ensures, c.from-2.ensures, c.from-in-loop-i.ensures)) c.loop-i.invariant
