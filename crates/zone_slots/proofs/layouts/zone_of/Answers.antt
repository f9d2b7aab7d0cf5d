use Rattle.std.proofs.Common.{arith}
use Rattle.zone_slots.proofs.Laid.{laid_ascend, in_none}
use Rattle.zone_slots.proofs.layouts.zone_of.Goals as goal
use Rattle.zone_slots.proofs.layouts.zone_of.Goals.{else-behind-zones-via-then-behind-zones+else-zones-behind, else-behind-zones-via-else-behind-zones}

pub ends_at_or_below-behind-requires : goal.ends_at_or_below-behind-requires
ends_at_or_below-behind-requires c = laid_ascend c.args.zones.now c.requires

pub returns-else-behind-zones : goal.returns-else-behind-zones
returns-else-behind-zones c =
    in_none c.args.zones.now c.from.result c.args.frame c.ends_at_or_below-behind.result
    c.ends_at_or_below-behind.ensures.below (omega (arith, c.from.ensures))
    (laid_ascend c.args.zones.now c.requires)
    (elim c.else-behind-zones.branch [
      | else-behind-zones-via-then-behind-zones+else-zones-behind w ↦ λ _. w.if-zones-behind.false
      | else-behind-zones-via-else-behind-zones w ↦ λ h. absurd (omega (arith, h, w.if-behind-zones.false))
    ])
