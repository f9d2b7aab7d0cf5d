use Rattle.std.proofs.Common.{List, ℕ, sym, subst}
use Rattle.frame_words.specs.declared.geometry.Geometry.{Geometry}
use Rattle.frame_model.specs.Key.{key_of}
use Rattle.frame_model.specs.Rebuilt.{IsRebuilt}
use Rattle.frame_image.proofs.Resealed.{exact_resealed}
use Rattle.llfree_oom.proofs.texts.exact.Goals as goal

pub returns : goal.returns
returns c =
    let words : List ℕ = c.in_ok-rebuilt.rebuilt.words in
    exact_resealed c.in_ok-rebuilt.rebuilt.geometry words
    (subst (λ (g : Geometry). IsRebuilt (key_of g) words words) (sym c.in_ok-rebuilt.ensures.geometry)
    c.in_ok-rebuilt.ensures.again.rebuilt)
