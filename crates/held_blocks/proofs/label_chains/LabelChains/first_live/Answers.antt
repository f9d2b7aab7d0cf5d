use Rattle.held_blocks.proofs.ChainLists.{chained_begin}
use Rattle.held_blocks.proofs.label_chains.LabelChains.first_live.Goals as goal

pub returns-then-at-slots-clause-chained : goal.returns-then-at-slots-clause-chained
returns-then-at-slots-clause-chained g c =
    chained_begin _ _ c.args.slots.now c.args.key c.walk-at.result c.requires c.begin_at.ensures c.walk-at.ensures.come

pub returns-else-at-slots-clause-chained : goal.returns-else-at-slots-clause-chained
returns-else-at-slots-clause-chained g c =
    chained_begin _ _ c.args.slots.now c.args.key c.walk-at.result c.requires c.begin_at.ensures c.walk-at.ensures.come
