use Rattle.std.proofs.Common.{ℕ, List, arith, ap, sym, subst, ◌∙◌, refl}
use Rattle.frame_words.proofs.WordLemmas.{flag-le}
use Rattle.frame_core.specs.Image.{Contents, key_in, IsImage}
use Rattle.frame_model.specs.Words.{tree_place}
use Rattle.frame_core.proofs.ImageLemmas.{place_in, tree_place-lt, set-with_tree, IsImage-with_tree}
use Rattle.frame_core.proofs.image.Image.set_tree.Goals as goal

pub put-requires-clause-place : goal.put-requires-clause-place
put-requires-clause-place c =
    let at = place_in tree_place c.geometry.result c.args.self.now.geometry c.args.tree c.tree_place-place.result
    c.tree_place-place.ensures.value c.geometry.ensures.value in
    omega (arith, at, tree_place-lt (key_in c.args.self.now) c.args.tree c.requires.tree)

pub put-requires-clause-in_range : goal.put-requires-clause-in_range
put-requires-clause-in_range c =
    let at = place_in tree_place c.geometry.result c.args.self.now.geometry c.args.tree c.tree_place-place.result
    c.tree_place-place.ensures.value c.geometry.ensures.value in
    subst (IsImage (key_in c.args.self.now))
    (sym (set-with_tree (key_in c.args.self.now) c.args.self.now.words c.tree_place-place.result c.args.tree c.tree.result c.tree.result at
    refl))
    (IsImage-with_tree (key_in c.args.self.now) c.args.self.now.words c.geometry.ensures.in_range c.args.tree c.tree.result c.requires.tree
    (omega (arith, c.tree.ensures.free, c.requires.free)) (omega (arith, c.tree.ensures.reserved, flag-le c.args.reserved)))

pub returns : goal.returns
returns c =
    let at = place_in tree_place c.geometry.result c.args.self.now.geometry c.args.tree c.tree_place-place.result
    c.tree_place-place.ensures.value c.geometry.ensures.value in
    let P : List ℕ → Contents = λ ws. record c.args.self.now { words = ws } in
    c.put.ensures ∙ ap P (set-with_tree (key_in c.args.self.now) c.args.self.now.words c.tree_place-place.result c.args.tree _
    c.tree.result at c.tree.ensures.word)
