use Rattle.std.proofs.Common.{List, sym, ◌∙◌, subst}
use Rattle.frame_table.specs.declared.block.Block.{Block}
use Rattle.frame_zones.specs.Fills.{TakesMoreIn}
use Rattle.zone_slots.specs.Resting.{LendAsManyBesides}
use Rattle.zone_slots.specs.declared.single_frame.SingleFrame.{SingleFrame}
use Rattle.zone_slots.proofs.Batches.{batch_out, batch_rests, batch_none}
use Rattle.zone_slots.proofs.memory.Memory.refill.Goals as goal

pub lay_all-requires-clause-out : goal.lay_all-requires-clause-out
lay_all-requires-clause-out c =
    let more = c.take_more-zone in
    batch_out c.args.self.now.zones more.result.0 more.result.1 c.args.most more.new.out.items c.args.core.now more.new.core
    c.requires.core
    (subst (λ (l : List Block). TakesMoreIn c.args.self.now.zones more.result.0 more.result.1 c.args.most l more.new.out.items
    c.args.core.now more.new.core) c.args.rest.now.no_batch more.ensures.takes)

pub returns-clause-lent : goal.returns-clause-lent
returns-clause-lent c =
    let more = c.take_more-zone in
    subst (λ (frames : List SingleFrame). LendAsManyBesides c.args.self.now.zones c.args.core.now c.args.rest.now.list.items more.new.core
    frames) (sym c.plan.ensures.list)
    (batch_rests c.args.self.now.zones more.result.0 more.result.1 c.args.most more.new.out.items c.args.core.now more.new.core
    c.args.rest.now.list.items c.lay_all.new.rest.items c.requires.core more.ensures.core.are_cores
    (subst (λ (l : List Block). TakesMoreIn c.args.self.now.zones more.result.0 more.result.1 c.args.most l more.new.out.items
    c.args.core.now more.new.core) c.args.rest.now.no_batch more.ensures.takes)
    c.lay_all.ensures.rest)

pub returns-clause-none : goal.returns-clause-none
returns-clause-none c =
    let more = c.take_more-zone in
    λ none. batch_none c.args.self.now.zones more.result.0 more.result.1 c.args.most more.new.out.items c.args.core.now more.new.core
    c.args.rest.now.list.items c.lay_all.new.rest.items c.requires.core
    (subst (λ (l : List Block). TakesMoreIn c.args.self.now.zones more.result.0 more.result.1 c.args.most l more.new.out.items
    c.args.core.now more.new.core) c.args.rest.now.no_batch more.ensures.takes)
    c.lay_all.ensures.rest (sym c.plan.ensures.list ∙ none)
