use Rattle.std.proofs.Common.{refl, ap, sym, ◌∙◌}
use Rattle.frame_model.specs.Steps.{unreserve, turned}
use Rattle.plain_moves.proofs.PlainSteps.{makes, steps, viewed}
use Rattle.plain_moves.proofs.plain.moves.PlainMovesMoves.unreserve.Goals as goal

pub invariant_of-self-clause-agrees : goal.invariant_of-self-clause-agrees
invariant_of-self-clause-agrees c =
    let m = c.args.self.now in
    let is = c.plain_word-found.ensures.value m.sealed in
    steps m (unreserve c.args.tree c.args.n) c.requires.share c.requires.may tt
    (ap (turned (unreserve c.args.tree c.args.n)) is ∙ c.unreserved.ensures c.args.tree _)
    (viewed m (sym c.with_less-self.ensures) refl refl refl refl (sym c.saturating_add-self.ensures))
    (search (c.number_of.ensures.number m.sealed))

pub returns : goal.returns
returns c =
    let m = c.args.self.now in
    let is = c.plain_word-found.ensures.value m.sealed in
    makes m (unreserve c.args.tree c.args.n) c.requires.share c.requires.may tt
    (ap (turned (unreserve c.args.tree c.args.n)) is ∙ c.unreserved.ensures c.args.tree _)
    (viewed m (sym c.with_less-self.ensures) refl refl refl refl (sym c.saturating_add-self.ensures))
    (search (c.number_of.ensures.number m.sealed)) refl
