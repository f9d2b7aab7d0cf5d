use Rattle.std.proofs.Common.{refl, sym, subst}
use Rattle.std.specs.Prelude.{Contains}
use Rattle.frame_model.specs.Block.{block}
use Rattle.core_frames.specs.Cores.{kept_by}
use Rattle.core_frames.specs.declared.shared.allocator.Core.{Core}
use Rattle.frame_zones.proofs.Placing.{core_read, stay_cores}
use Rattle.frame_zones.proofs.Sums.{just_more}
use Rattle.frame_zones.proofs.zones.Zones.recall.Goals as goal

pub recall-block-requires-clause-core : goal.recall-block-requires-clause-core
recall-block-requires-clause-core c =
    core_read c.args.self.now c.args.core.now c.args.zone _ _ c.requires.core c.requires.zone
    c.index.ensures c.index_mut.ensures.value

pub returns-clause-core : goal.returns-clause-core
returns-clause-core c =
    stay_cores c.args.self.now c.args.core.now _ c.args.zone _ _ _ c.requires.core c.requires.zone
    c.index.ensures c.index_mut.ensures.value refl refl c.recall-block.ensures.core

pub recall-block-requires-clause-kept : goal.recall-block-requires-clause-kept
recall-block-requires-clause-kept c =
    subst (λ (y : Core). Contains (kept_by y) (block c.args.frame c.args.order)) (sym c.index_mut.ensures.value)
    (c.requires.kept c.index_mut.result.now)

pub returns-clause-all_moves : goal.returns-clause-all_moves
returns-clause-all_moves c =
    just_more 1 c.args.self.now c.args.core.now _ c.args.zone _ _ c.requires.core c.requires.zone
    c.index_mut.ensures.value refl c.recall-block.ensures.moves
