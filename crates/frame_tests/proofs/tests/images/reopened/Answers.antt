use Rattle.std.proofs.Common.{List, ℕ, sym, subst}
use Rattle.frame_words.specs.declared.geometry.Geometry.{Geometry}
use Rattle.frame_model.specs.Key.{key_of}
use Rattle.frame_model.specs.Rebuilt.{IsRebuilt}
use Rattle.frame_image.proofs.Resealed.{exact_resealed}
use Rattle.frame_tests.proofs.tests.images.reopened.Goals as goal

pub new_at-requires : goal.new_at-requires
new_at-requires c =
    let words : List ℕ = c.in_ok-made.made.words in
    exact_resealed c.in_ok-made.made.geometry words
    (subst (λ (g : Geometry). IsRebuilt (key_of g) words words) (sym c.in_ok-made.ensures.geometry) c.in_ok-made.ensures.again.rebuilt)
