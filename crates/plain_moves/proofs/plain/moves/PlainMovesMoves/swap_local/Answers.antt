use Rattle.std.proofs.Common.{◌≡◌, get_or, refl, ap, sym, ◌∙◌}
use Rattle.frame_words.specs.Words.{rest_in}
use Rattle.frame_model.specs.Words.{local_place}
use Rattle.frame_model.specs.Steps.{swap_local}
use Rattle.frame_model.specs.Steps.Amounts.{rest_amount, rest_tree}
use Rattle.plain_moves.specs.PlainState.{key_by, words_by, view_by}
use Rattle.plain_moves.proofs.PlainSteps.{viewed, steps, swapped_by, rest_low}
use Rattle.plain_moves.proofs.plain.moves.PlainMovesMoves.swap_local.Goals as goal

pub local-requires : goal.local-requires
local-requires c = rest_low (key_by c.args.self.now) c.args.self.now.geometry.few_children c.args.put c.requires.may.is_rest

pub invariant_of-self-clause-agrees : goal.invariant_of-self-clause-agrees
invariant_of-self-clause-agrees c =
    let m = c.args.self.now in
    let is : rest_in (get_or (words_by m) (local_place (key_by m) c.args.core) 0) ≡ c.local_of-found.result =
    ap rest_in (c.plain_word.ensures.value m.sealed) ∙ sym c.local_of-found.ensures in
    steps m (swap_local c.args.core c.args.put) c.requires.share c.requires.may tt (sym c.local.ensures.word)
    (viewed m (ap rest_amount is ∙ sym c.amount_in-self.ensures) refl (ap rest_tree is ∙ sym c.tree_in-self.ensures) refl refl
    (sym c.saturating_add-self.ensures))
    (c.number_of.ensures.number m.sealed)

pub returns : goal.returns
returns c =
    let m = c.args.self.now in
    let is : rest_in (get_or (words_by m) (local_place (key_by m) c.args.core) 0) ≡ c.local_of-found.result =
    ap rest_in (c.plain_word.ensures.value m.sealed) ∙ sym c.local_of-found.ensures in
    swapped_by (key_by m) (words_by m) m.outs.items (view_by m) _ c.args.core c.args.put c.local_of-found.result
    c.number_of.result c.local.result m.agrees c.requires.share c.requires.may (sym c.local.ensures.word)
    (viewed m (ap rest_amount is ∙ sym c.amount_in-self.ensures) refl (ap rest_tree is ∙ sym c.tree_in-self.ensures) refl refl
    (sym c.saturating_add-self.ensures))
    (sym (c.number_of.ensures.number m.sealed)) is
