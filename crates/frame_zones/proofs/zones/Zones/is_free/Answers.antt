use Rattle.std.proofs.Common.{refl}
use Rattle.frame_zones.proofs.Placing.{core_read, stay_cores}
use Rattle.frame_zones.proofs.zones.Zones.is_free.Goals as goal

pub is_free-requires : goal.is_free-requires
is_free-requires c =
    core_read c.args.self.now c.args.core.now c.in-Some.zone _ _ c.requires c.in-Some.ensures.found.zone
    c.index.ensures c.index_mut.ensures.value

pub returns-clause-core : goal.returns-clause-core
returns-clause-core c =
    stay_cores c.args.self.now c.args.core.now _ c.in-Some.zone _ _ _ c.requires c.in-Some.ensures.found.zone
    c.index.ensures c.index_mut.ensures.value refl refl c.is_free.ensures.core
