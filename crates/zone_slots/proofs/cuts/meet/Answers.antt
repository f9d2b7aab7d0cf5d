use Rattle.std.proofs.Common.{arith}
use Rattle.zone_slots.proofs.Cutting.{meets}
use Rattle.zone_slots.proofs.cuts.meet.Goals as goal

pub returns : goal.returns
returns c =
    meets c.args.ranges.now c.args.from c.args.end c.ends_at_or_below-behind.result c.requires
    c.ends_at_or_below-behind.ensures c.if-end-from.false
    (omega (arith, c.if-behind-ranges.false, c.ends_at_or_below-behind.ensures.count))
    (omega (arith, c.if-from-end.false, c.from.ensures))
