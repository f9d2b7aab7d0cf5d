use Rattle.std.proofs.Common.{List, ℕ, get_or, refl, sym, subst, arith}
use Rattle.std.proofs.Math.Logic.{∥∥₁_map}
use Rattle.frame_model.specs.Words.{bits_place}
use Rattle.frame_model.specs.Steps.{fill_word}
use Rattle.frame_model.proofs.Sets.{or_full}
use Rattle.plain_moves.specs.Apart.{AreApart}
use Rattle.plain_moves.specs.PlainState.{key_by, words_by, view_by}
use Rattle.plain_moves.proofs.PlainFilled.{few_filled, distinct_put}
use Rattle.plain_moves.proofs.PlainOwn.{word_low}
use Rattle.plain_moves.proofs.PlainSteps.{makes, steps, viewed}
use Rattle.plain_moves.proofs.plain.moves.PlainMovesMoves.fill_word.Goals as goal

pub add_word-requires : goal.add_word-requires
add_word-requires c =
    let m = c.args.self.now in
    omega (arith, few_filled (key_by m) (words_by m) m.outs.items (view_by m) m.agrees m.distinct, m.filled_room, m.filled.ok)

pub invariant_of-self-clause-agrees : goal.invariant_of-self-clause-agrees
invariant_of-self-clause-agrees c =
    let m = c.args.self.now in
    steps m (fill_word c.args.word) c.requires.share c.requires.may tt
    (or_full (get_or (words_by m) (bits_place (key_by m) c.args.word) 0)
    (word_low (key_by m) (words_by m) m.outs.items (view_by m) c.args.word m.agrees c.requires.may.inside))
    (viewed m refl refl refl refl (sym c.add_word.ensures.items) (sym c.saturating_add-self.ensures))
    (c.number_of.ensures.number m.sealed)

pub invariant_of-self-clause-distinct : goal.invariant_of-self-clause-distinct
invariant_of-self-clause-distinct c =
    let m = c.args.self.now in
    subst (λ (l : List ℕ). ∥ AreApart l ∥₁) (sym c.add_word.ensures.items) (∥∥₁_map m.distinct (distinct_put c.args.word m.filled.items))

pub returns : goal.returns
returns c =
    let m = c.args.self.now in
    makes m (fill_word c.args.word) c.requires.share c.requires.may tt
    (or_full (get_or (words_by m) (bits_place (key_by m) c.args.word) 0)
    (word_low (key_by m) (words_by m) m.outs.items (view_by m) c.args.word m.agrees c.requires.may.inside))
    (viewed m refl refl refl refl (sym c.add_word.ensures.items) (sym c.saturating_add-self.ensures))
    (c.number_of.ensures.number m.sealed) refl
