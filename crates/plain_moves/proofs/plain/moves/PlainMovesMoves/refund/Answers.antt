use Rattle.std.proofs.Common.{refl, ap, sym, ◌∙◌}
use Rattle.frame_model.specs.Steps.{refund, turned}
use Rattle.plain_moves.proofs.PlainSteps.{makes, steps, viewed}
use Rattle.plain_moves.proofs.plain.moves.PlainMovesMoves.refund.Goals as goal

pub invariant_of-self-clause-agrees : goal.invariant_of-self-clause-agrees
invariant_of-self-clause-agrees c =
    let m = c.args.self.now in
    let is = c.plain_word-found.ensures.value m.sealed in
    steps m (refund c.args.child c.args.n) c.requires.share c.requires.may tt
    (ap (turned (refund c.args.child c.args.n)) is ∙ c.refunded.ensures _)
    (viewed m refl (sym c.with_less-self.ensures) refl refl refl (sym c.saturating_add-self.ensures))
    (search (c.number_of.ensures.number m.sealed))

pub returns : goal.returns
returns c =
    let m = c.args.self.now in
    let is = c.plain_word-found.ensures.value m.sealed in
    makes m (refund c.args.child c.args.n) c.requires.share c.requires.may tt
    (ap (turned (refund c.args.child c.args.n)) is ∙ c.refunded.ensures _)
    (viewed m refl (sym c.with_less-self.ensures) refl refl refl (sym c.saturating_add-self.ensures))
    (search (c.number_of.ensures.number m.sealed)) refl
