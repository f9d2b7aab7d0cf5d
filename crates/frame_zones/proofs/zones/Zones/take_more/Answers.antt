use Rattle.std.proofs.Common.{refl, arith}
use Rattle.frame_zones.proofs.Placing.{core_read, stay_cores}
use Rattle.frame_zones.proofs.zones.Zones.take_more.Goals as goal

pub take_more-got-requires-clause-core : goal.take_more-got-requires-clause-core
take_more-got-requires-clause-core c =
    core_read c.args.self.now c.args.core.now c.first_zone-zone.result _ _ c.requires.core
    (omega (arith, c.first_zone-zone.ensures.zone, c.len.ensures))
    c.index.ensures c.index_mut.ensures.value

pub returns-clause-core : goal.returns-clause-core
returns-clause-core c =
    stay_cores c.args.self.now c.args.core.now _ c.first_zone-zone.result _ _ _ c.requires.core
    (omega (arith, c.first_zone-zone.ensures.zone, c.len.ensures))
    c.index.ensures c.index_mut.ensures.value refl refl c.take_more-got.ensures.core
