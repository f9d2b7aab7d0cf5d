use Rattle.std.proofs.Common.{ap}
use Rattle.held_blocks.specs.LabelChains.{Knows}
use Rattle.held_blocks.proofs.StoreLemmas.{can_move}
use Rattle.held_blocks.proofs.block_store.BlockStore.compact.Goals as goal

pub move_all-requires-clause-can : goal.move_all-requires-clause-can
move_all-requires-clause-can c =
    let r = c.replace-slots.ensures in
    let labels = c.in_ok-chains.ensures.labels in
    can_move c.args.self.now.finds (ap (λ s. s.slots.items) r.value) (ap (λ s. s.pages) r.value)
    (λ i e stands. rw (ap (λ s. s.chains) r.after) (labels i e stands))

pub returns-clause-ready : goal.returns-clause-ready
returns-clause-ready c =
    let after = c.replace-slots.ensures.after in
    let knows : Knows c.replace-slots.new.dest.chains c.args.key = rw (ap (λ s. s.chains) after) c.in_ok-chains.ensures.knows in
    c.move_all.ensures.ready c.args.key knows
