use Rattle.std.proofs.Common.{rules, ◌<◌, ◌^◌, ◌∙◌, arith}
use Rattle.frame_zones.specs.FreeCounts.{free_huge_in}
use Rattle.frame_zones.proofs.Counted.{one_counted, few_huge, all_moves}
use Rattle.frame_zones.proofs.zones.Zones.free_huge.Goals as goal

pub loop-zone-preserved : goal.loop-zone-preserved
loop-zone-preserved c =
    let small : c.from-sum.result < 2 ^ 32 = search rules in
    one_counted free_huge_in c.args.self.now c.loop-zone.zone c.loop-zone.sum c.from-sum.result c.args.core.now c.loop-zone.core
    c.free_huge_of.new.core (omega (arith, c.loop-zone-test.true, c.count-zone-end.ensures)) c.loop-zone.invariant
    c.free_huge_of.ensures.core c.free_huge_of.ensures.reads (λ a x. c.from-sum.ensures ∙ c.free_huge_of.ensures.count a x) small

pub returns-clause-few : goal.returns-clause-few
returns-clause-few c =
    few_huge c.args.self.now c.loop-zone.zone c.loop-zone.sum c.args.core.now c.loop-zone.core
    (omega (arith, c.loop-zone-test.false, c.loop-zone.auto.zone-end, c.count-zone-end.ensures)) c.loop-zone.invariant

pub returns-clause-all_moves : goal.returns-clause-all_moves
returns-clause-all_moves c =
    all_moves free_huge_in c.args.self.now c.loop-zone.zone c.loop-zone.sum c.args.core.now c.loop-zone.core
    (omega (arith, c.loop-zone-test.false, c.loop-zone.auto.zone-end, c.count-zone-end.ensures)) c.requires
    c.loop-zone.invariant
