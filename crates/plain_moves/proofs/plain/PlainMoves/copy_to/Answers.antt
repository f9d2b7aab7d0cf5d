use Rattle.std.proofs.Common.{ℕ, List, true, sym, subst}
use Rattle.frame_model.specs.Key.{key_of}
use Rattle.frame_core.specs.Image.{IsImage}
use Rattle.plain_moves.proofs.PlainImage.{image_known, image_resealed}
use Rattle.plain_moves.proofs.plain.PlainMoves.copy_to.Goals as goal

pub copy_from-requires-clause-image : goal.copy_from-requires-clause-image
copy_from-requires-clause-image c =
    let m = c.args.self.now in
    subst (λ (l : List ℕ). IsImage (key_of m.geometry) l) (sym c.as_slice.ensures.value)
    (image_resealed m.geometry m.sealed true _ (image_known _ _ _ _ m.agrees))
