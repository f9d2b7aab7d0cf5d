use Rattle.std.proofs.Common.{refl}
use Rattle.frame_zones.proofs.Placing.{core_read, stay_cores}
use Rattle.frame_zones.proofs.zones.Zones.look_for_run_in.Goals as goal

pub first_run-requires-clause-core : goal.first_run-requires-clause-core
first_run-requires-clause-core c =
    core_read c.args.self.now c.args.core.now c.args.zone _ _ c.requires.core c.requires.zone
    c.index-3.ensures c.index_mut.ensures.value

pub returns-clause-core : goal.returns-clause-core
returns-clause-core c =
    stay_cores c.args.self.now c.args.core.now _ c.args.zone _ _ _ c.requires.core c.requires.zone
    c.index-3.ensures c.index_mut.ensures.value refl refl c.first_run.ensures.core
