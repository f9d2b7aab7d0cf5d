use Rattle.std.proofs.Common.{refl, ap, sym, ◌∙◌}
use Rattle.frame_model.specs.Words.{tree_place}
use Rattle.frame_model.specs.View.{counted}
use Rattle.frame_model.specs.Steps.{reserve}
use Rattle.plain_moves.specs.PlainState.{key_by, words_by}
use Rattle.plain_moves.proofs.PlainSteps.{got, steps, tries, viewed}
use Rattle.plain_moves.proofs.plain.moves.PlainMovesMoves.reserve.Goals as goal

pub invariant_of-self-clause-agrees : goal.invariant_of-self-clause-agrees
invariant_of-self-clause-agrees c =
    let m = c.args.self.now in
    steps m (reserve c.args.tree c.args.seen) c.requires.share c.requires.may (got (words_by m) (tree_place
    (key_by m) c.args.tree) c.args.seen c.requires.seen)
    (c.reserved.ensures c.args.tree c.args.seen c.args.seen)
    (viewed m (ap (counted c.args.tree) (sym c.tree_free.ensures.value) ∙ sym c.amount_of-self.ensures) refl refl refl refl
    (sym c.saturating_add-self.ensures))
    (c.number_of.ensures.number m.sealed)

pub returns : goal.returns
returns c =
    let m = c.args.self.now in
    tries m (reserve c.args.tree c.args.seen) c.requires.share c.requires.may (got (words_by m) (tree_place
    (key_by m) c.args.tree) c.args.seen c.requires.seen)
    (c.reserved.ensures c.args.tree c.args.seen c.args.seen)
    (viewed m (ap (counted c.args.tree) (sym c.tree_free.ensures.value) ∙ sym c.amount_of-self.ensures) refl refl refl refl
    (sym c.saturating_add-self.ensures))
    (c.number_of.ensures.number m.sealed) refl refl
