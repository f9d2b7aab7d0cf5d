use Rattle.std.proofs.Common.{ℕ, List, true, sym, subst, ◌∙◌}
use Rattle.frame_model.specs.Key.{key_of}
use Rattle.frame_core.specs.Image.{IsImage}
use Rattle.plain_moves.proofs.PlainImage.{image_known, image_resealed}
use Rattle.plain_moves.proofs.plain.PlainMoves.image.Goals as goal

pub of_words-requires : goal.of_words-requires
of_words-requires c =
    let m = c.args.self.now in
    let same = c.in_ok-words.ensures.items_if_clones_equal (λ t y e. e) in
    subst (λ (l : List ℕ). IsImage (key_of m.geometry) l) (sym (same ∙ c.deref.ensures.value))
    (image_resealed m.geometry m.sealed true _ (image_known _ _ _ _ m.agrees))
