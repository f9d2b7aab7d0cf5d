use Rattle.std.proofs.Common.{ℕ, List, false, ap, sym, subst, ◌∙◌}
use Rattle.std.proofs.lemmas.Result.{IfOk-weaker}
use Rattle.frame_words.specs.declared.geometry.Geometry.{Geometry}
use Rattle.plain_moves.specs.Plain.{plain_key, FitsIdle, FitsReopened}
use Rattle.plain_moves.proofs.PlainOpening.{reopened_image, reopened_idle}
use Rattle.plain_moves.proofs.plain.PlainMoves.new_at.Goals as goal

pub of-requires-clause-fits : goal.of-requires-clause-fits
of-requires-clause-fits c =
    let image = c.args.image.now in
    let key = plain_key image.geometry false in
    let same = c.in_ok-words.ensures.items_if_clones_equal (λ t y e. e) ∙ c.words.ensures in
    let fit = reopened_image image.geometry image.words c.geometry-geometry.ensures.in_range c.requires in
    let fits : ∥ FitsIdle (plain_key c.geometry-geometry.result false) c.in_ok-words.words.items ∥₁ =
    subst (λ (g : Geometry). ∥ FitsIdle (plain_key g false) c.in_ok-words.words.items ∥₁)
    (sym c.geometry-geometry.ensures.value)
    (subst (λ (l : List ℕ). ∥ FitsIdle key l ∥₁) (sym same) (reopened_idle key image.words fit)) in
    search fits

pub returns-clause-is_ground : goal.returns-clause-is_ground
returns-clause-is_ground c =
    let image = c.args.image.now in
    let key = plain_key image.geometry false in
    let same = c.in_ok-words.ensures.items_if_clones_equal (λ t y e. e) ∙ c.words.ensures in
    let fit = reopened_image image.geometry image.words c.geometry-geometry.ensures.in_range c.requires in
    IfOk-weaker c.of.result _ _
    (λ m e. subst (λ (l : List ℕ). FitsReopened key l) (sym (ap (λ w. w.items) e ∙ same)) fit)
    c.of.ensures.words
