use Rattle.std.proofs.Common.{refl}
use Rattle.frame_zones.proofs.Placing.{core_read, stay_cores}
use Rattle.frame_zones.proofs.Sums.{just_more}
use Rattle.frame_zones.proofs.zones.Zones.keep.Goals as goal

pub keep-frame-requires-clause-core : goal.keep-frame-requires-clause-core
keep-frame-requires-clause-core c =
    core_read c.args.self.now c.args.core.now c.args.block.zone _ _ c.requires.core c.requires.block.zone
    c.index.ensures c.index_mut.ensures.value

pub returns-clause-core : goal.returns-clause-core
returns-clause-core c =
    stay_cores c.args.self.now c.args.core.now _ c.args.block.zone _ _ _ c.requires.core c.requires.block.zone
    c.index.ensures c.index_mut.ensures.value refl refl c.keep-frame.ensures.core

pub returns-clause-all_moves : goal.returns-clause-all_moves
returns-clause-all_moves c =
    just_more 1 c.args.self.now c.args.core.now _ c.args.block.zone _ _ c.requires.core c.requires.block.zone
    c.index_mut.ensures.value refl c.keep-frame.ensures.moves
