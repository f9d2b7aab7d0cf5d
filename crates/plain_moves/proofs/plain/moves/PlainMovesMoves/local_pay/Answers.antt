use Rattle.std.proofs.Common.{◌≡◌, ℕ, Option, Some, refl, ap, sym, ◌∙◌, arith}
use Rattle.frame_words.specs.Words.{rest_in}
use Rattle.frame_model.specs.Words.{local_place}
use Rattle.frame_model.specs.Steps.{local_pay}
use Rattle.frame_model.specs.Steps.Amounts.{more_of}
use Rattle.plain_moves.specs.PlainState.{key_by, words_by, view_by}
use Rattle.plain_moves.proofs.PlainSteps.{got, resting_bound, steps, tries, viewed}
use Rattle.plain_moves.proofs.plain.moves.PlainMovesMoves.local_pay.Goals as goal

pub with_more-self-requires : goal.with_more-self-requires
with_more-self-requires c =
    let m = c.args.self.now in
    let e : rest_in c.args.seen ≡ Some c.unwrap-tree.result = sym c.local_of.ensures ∙ c.unwrap-tree.ensures in
    let t = c.unwrap-tree.result.0 in
    let r = c.unwrap-tree.result.1 in
    let room = resting_bound (key_by m) (words_by m) m.outs.items (view_by m) c.args.core t r m.agrees c.requires.may.inside
    (ap rest_in (got (words_by m) (local_place (key_by m) c.args.core) c.args.seen c.requires.seen) ∙ e) in
    let pair : ◌≡◌ {A = Option (ℕ × ℕ)} (Some (t, r)) (Some (c.requires.may.tree, c.requires.may.resting)) = sym e
    ∙ c.requires.may.seen_as in
    let same : r ≡ c.requires.may.resting = cc in
    omega (arith, room, c.requires.may.enough, same)

pub invariant_of-self-clause-agrees : goal.invariant_of-self-clause-agrees
invariant_of-self-clause-agrees c =
    let m = c.args.self.now in
    let e : rest_in c.args.seen ≡ Some c.unwrap-tree.result = sym c.local_of.ensures ∙ c.unwrap-tree.ensures in
    steps m (local_pay c.args.core c.args.seen c.args.n) c.requires.share c.requires.may (got (words_by m) (local_place
    (key_by m) c.args.core) c.args.seen c.requires.seen)
    (c.local_paid.ensures c.args.core)
    (viewed m (ap (λ (x : Option (ℕ × ℕ)). more_of x c.args.n m.paid) e ∙ sym c.with_more-self.ensures) refl refl refl refl
    (sym c.saturating_add-self.ensures))
    (c.number_of.ensures.number m.sealed)

pub returns : goal.returns
returns c =
    let m = c.args.self.now in
    let e : rest_in c.args.seen ≡ Some c.unwrap-tree.result = sym c.local_of.ensures ∙ c.unwrap-tree.ensures in
    tries m (local_pay c.args.core c.args.seen c.args.n) c.requires.share c.requires.may (got (words_by m) (local_place
    (key_by m) c.args.core) c.args.seen c.requires.seen)
    (c.local_paid.ensures c.args.core)
    (viewed m (ap (λ (x : Option (ℕ × ℕ)). more_of x c.args.n m.paid) e ∙ sym c.with_more-self.ensures) refl refl refl refl
    (sym c.saturating_add-self.ensures))
    (c.number_of.ensures.number m.sealed) refl refl
