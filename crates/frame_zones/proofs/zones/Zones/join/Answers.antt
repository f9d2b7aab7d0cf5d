use Rattle.std.proofs.Common.{refl}
use Rattle.core_frames.specs.Bounds.{most_in_join}
use Rattle.frame_zones.proofs.Placing.{core_read, stay_cores}
use Rattle.frame_zones.proofs.Sums.{at_most_more}
use Rattle.frame_zones.proofs.zones.Zones.join.Goals as goal

pub join-requires-clause-core : goal.join-requires-clause-core
join-requires-clause-core c =
    core_read c.args.self.now c.args.core.now c.args.lower.zone _ _ c.requires.core c.requires.lower.zone
    c.index.ensures c.index_mut.ensures.value

pub returns-in-Ok-clause-core : goal.returns-in-Ok-clause-core
returns-in-Ok-clause-core c =
    stay_cores c.args.self.now c.args.core.now _ c.args.lower.zone _ _ _ c.requires.core c.requires.lower.zone
    c.index.ensures c.index_mut.ensures.value refl refl c.in-Ok.ensures.core

pub returns-in-Err-clause-core : goal.returns-in-Err-clause-core
returns-in-Err-clause-core c =
    stay_cores c.args.self.now c.args.core.now _ c.args.lower.zone _ _ _ c.requires.core c.requires.lower.zone
    c.index.ensures c.index_mut.ensures.value refl refl c.in-Err.ensures.core

pub returns-in-Ok-clause-all_moves : goal.returns-in-Ok-clause-all_moves
returns-in-Ok-clause-all_moves c =
    at_most_more most_in_join c.args.self.now c.args.core.now _ c.args.lower.zone _ _ c.requires.core c.requires.lower.zone
    c.index_mut.ensures.value refl c.in-Ok.ensures.moves

pub returns-in-Err-clause-all_moves : goal.returns-in-Err-clause-all_moves
returns-in-Err-clause-all_moves c =
    at_most_more most_in_join c.args.self.now c.args.core.now _ c.args.lower.zone _ _ c.requires.core c.requires.lower.zone
    c.index_mut.ensures.value refl c.in-Err.ensures.moves
