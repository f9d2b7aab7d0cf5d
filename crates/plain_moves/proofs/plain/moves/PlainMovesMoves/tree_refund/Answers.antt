use Rattle.std.proofs.Common.{◌+◌, ◌%◌, ◌^◌, refl, ap, sym, ◌∙◌}
use Rattle.frame_model.specs.Steps.{tree_refund, turned}
use Rattle.plain_moves.proofs.PlainSteps.{makes, steps, viewed}
use Rattle.plain_moves.proofs.plain.moves.PlainMovesMoves.tree_refund.Goals as goal

pub invariant_of-self-clause-agrees : goal.invariant_of-self-clause-agrees
invariant_of-self-clause-agrees c =
    let m = c.args.self.now in
    let is = c.plain_word-found.ensures.value m.sealed in
    let found = c.plain_word-found.result in
    steps m (tree_refund c.args.tree c.args.n) c.requires.share c.requires.may tt
    (ap (turned (tree_refund c.args.tree c.args.n)) is ∙ ap (λ n. (found + n) % 2 ^ 64) (sym c.from.ensures))
    (viewed m (sym c.with_less-self.ensures) refl refl refl refl (sym c.saturating_add-self.ensures))
    (c.number_of.ensures.number m.sealed)

pub returns : goal.returns
returns c =
    let m = c.args.self.now in
    let is = c.plain_word-found.ensures.value m.sealed in
    let found = c.plain_word-found.result in
    makes m (tree_refund c.args.tree c.args.n) c.requires.share c.requires.may tt
    (ap (turned (tree_refund c.args.tree c.args.n)) is ∙ ap (λ n. (found + n) % 2 ^ 64) (sym c.from.ensures))
    (viewed m (sym c.with_less-self.ensures) refl refl refl refl (sym c.saturating_add-self.ensures))
    (c.number_of.ensures.number m.sealed) refl
