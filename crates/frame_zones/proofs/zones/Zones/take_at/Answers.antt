use Rattle.std.proofs.Common.{refl}
use Rattle.frame_zones.proofs.Placed.{refused_there}
use Rattle.frame_zones.proofs.Placing.{core_read, stay_cores}
use Rattle.frame_zones.proofs.zones.Zones.take_at.Goals as goal

pub take_at-requires : goal.take_at-requires
take_at-requires c =
    core_read c.args.self.now c.args.core.now c.in-Some.zone _ _ c.requires c.in-Some.ensures.found.zone
    c.index.ensures c.index_mut.ensures.value

pub returns-in-Ok-clause-core : goal.returns-in-Ok-clause-core
returns-in-Ok-clause-core c =
    stay_cores c.args.self.now c.args.core.now _ c.in-Some.zone _ _ _ c.requires c.in-Some.ensures.found.zone
    c.index.ensures c.index_mut.ensures.value refl refl c.in-Ok.ensures.core

pub returns-in-Err-clause-core : goal.returns-in-Err-clause-core
returns-in-Err-clause-core c =
    stay_cores c.args.self.now c.args.core.now _ c.in-Some.zone _ _ _ c.requires c.in-Some.ensures.found.zone
    c.index.ensures c.index_mut.ensures.value refl refl c.in-Err.ensures.core

pub returns-in-Err-clause-takes : goal.returns-in-Err-clause-takes
returns-in-Err-clause-takes c =
    refused_there c.args.self.now c.args.frame c.in-Some.zone c.in-Some.local c.args.order _ c.args.core.now _ _ _ _
    c.if-order-gt-HUGE_ORDER.false c.requires c.in-Some.ensures.found c.index.ensures c.index_mut.ensures.value refl
    refl c.in-Err.ensures.takes
