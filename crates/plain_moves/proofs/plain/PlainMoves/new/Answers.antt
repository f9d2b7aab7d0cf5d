use Rattle.std.proofs.Common.{ℕ, List, true, sym, subst, ◌∙◌}
use Rattle.plain_moves.specs.Plain.{plain_key, FitsIdle}
use Rattle.plain_moves.proofs.PlainOpening.{sealed_opens}
use Rattle.plain_moves.proofs.plain.PlainMoves.new.Goals as goal

pub of-requires-clause-fits : goal.of-requires-clause-fits
of-requires-clause-fits c =
    let geometry = c.args.geometry.now in
    let key = plain_key geometry true in
    let image = c.in_ok-image in
    let same = c.in_ok-words.ensures.items_if_clones_equal (λ t y e. e) ∙ c.words.ensures in
    let fits : ∥ FitsIdle key c.in_ok-words.words.items ∥₁ =
    subst (λ (l : List ℕ). ∥ FitsIdle key l ∥₁) (sym same)
    (sealed_opens key image.image.words geometry.some_cores image.ensures.opens) in
    search fits
