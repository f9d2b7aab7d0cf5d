use Rattle.std.proofs.Common.{refl, ap, sym, ◌∙◌, arith}
use Rattle.frame_words.specs.Words.{free_in}
use Rattle.frame_model.specs.Words.{tree_place}
use Rattle.frame_model.specs.Steps.{collect}
use Rattle.frame_model.specs.Steps.Amounts.{more}
use Rattle.plain_moves.specs.PlainState.{key_by, words_by, view_by}
use Rattle.plain_moves.proofs.PlainSteps.{got, steps, tree_bound, tries, viewed}
use Rattle.plain_moves.proofs.plain.moves.PlainMovesMoves.collect.Goals as goal

pub with_more-self-requires : goal.with_more-self-requires
with_more-self-requires c =
    let m = c.args.self.now in
    let room = tree_bound (key_by m) (words_by m) m.outs.items (view_by m) c.args.tree m.agrees c.requires.may.inside in
    let here = ap free_in (got (words_by m) (tree_place (key_by m) c.args.tree) c.args.seen c.requires.seen) in
    omega (arith, room, here, c.tree_free.ensures.value)

pub invariant_of-self-clause-agrees : goal.invariant_of-self-clause-agrees
invariant_of-self-clause-agrees c =
    let m = c.args.self.now in
    steps m (collect c.args.tree c.args.seen) c.requires.share c.requires.may (got (words_by m) (tree_place
    (key_by m) c.args.tree) c.args.seen c.requires.seen)
    (c.collected.ensures c.args.tree)
    (viewed m (ap (λ f. more c.args.tree f m.paid) (sym c.tree_free.ensures.value) ∙ sym c.with_more-self.ensures) refl refl refl refl
    (sym c.saturating_add-self.ensures))
    (c.number_of.ensures.number m.sealed)

pub returns : goal.returns
returns c =
    let m = c.args.self.now in
    tries m (collect c.args.tree c.args.seen) c.requires.share c.requires.may (got (words_by m) (tree_place
    (key_by m) c.args.tree) c.args.seen c.requires.seen)
    (c.collected.ensures c.args.tree)
    (viewed m (ap (λ f. more c.args.tree f m.paid) (sym c.tree_free.ensures.value) ∙ sym c.with_more-self.ensures) refl refl refl refl
    (sym c.saturating_add-self.ensures))
    (c.number_of.ensures.number m.sealed) refl refl
