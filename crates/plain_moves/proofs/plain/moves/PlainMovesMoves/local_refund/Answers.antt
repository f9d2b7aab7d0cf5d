use Rattle.std.proofs.Common.{◌≡◌, ℕ, Option, Some, refl, ap, sym, ◌∙◌, arith}
use Rattle.frame_words.specs.Words.{rest_in}
use Rattle.frame_model.specs.Words.{local_place}
use Rattle.frame_model.specs.Steps.{local_refund}
use Rattle.frame_model.specs.Steps.Amounts.{less_of}
use Rattle.plain_moves.specs.PlainState.{key_by, words_by, view_by}
use Rattle.plain_moves.proofs.PlainSteps.{got, rest_known, steps, tries, viewed}
use Rattle.plain_moves.proofs.plain.moves.PlainMovesMoves.local_refund.Goals as goal

pub local_refunded-requires : goal.local_refunded-requires
local_refunded-requires c =
    let m = c.args.self.now in
    let t = c.requires.may.tree in
    let r = c.requires.may.resting in
    let known = rest_known (key_by m) (words_by m) m.outs.items (view_by m) c.args.core m.agrees c.requires.may.inside (Some (t, r))
    (ap rest_in (got (words_by m) (local_place (key_by m) c.args.core) c.args.seen c.requires.seen) ∙ c.requires.may.seen_as) in
    (t, (r, (c.requires.may.seen_as, (omega (arith, known.0, m.geometry.few_children), known.1))))

pub invariant_of-self-clause-agrees : goal.invariant_of-self-clause-agrees
invariant_of-self-clause-agrees c =
    let m = c.args.self.now in
    let e : rest_in c.args.seen ≡ Some c.unwrap-tree.result = sym c.local_of.ensures ∙ c.unwrap-tree.ensures in
    steps m (local_refund c.args.core c.args.seen c.args.n) c.requires.share c.requires.may (got (words_by m) (local_place
    (key_by m) c.args.core) c.args.seen c.requires.seen)
    (c.local_refunded.ensures c.args.core)
    (viewed m (ap (λ (x : Option (ℕ × ℕ)). less_of x c.args.n m.paid) e ∙ sym c.with_less-self.ensures) refl refl refl refl
    (sym c.saturating_add-self.ensures))
    (c.number_of.ensures.number m.sealed)

pub returns : goal.returns
returns c =
    let m = c.args.self.now in
    let e : rest_in c.args.seen ≡ Some c.unwrap-tree.result = sym c.local_of.ensures ∙ c.unwrap-tree.ensures in
    tries m (local_refund c.args.core c.args.seen c.args.n) c.requires.share c.requires.may (got (words_by m) (local_place
    (key_by m) c.args.core) c.args.seen c.requires.seen)
    (c.local_refunded.ensures c.args.core)
    (viewed m (ap (λ (x : Option (ℕ × ℕ)). less_of x c.args.n m.paid) e ∙ sym c.with_less-self.ensures) refl refl refl refl
    (sym c.saturating_add-self.ensures))
    (c.number_of.ensures.number m.sealed) refl refl
