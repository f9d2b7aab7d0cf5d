use Rattle.std.proofs.Common.{◌∙◌, ap, sym, subst}
use Rattle.frame_words.specs.declared.geometry.Geometry.{Geometry}
use Rattle.frame_model.specs.Key.{key_of}
use Rattle.frame_core.specs.Image.{key_in, blank_words}
use Rattle.frame_model.specs.Rebuilt.{IsRebuilt}
use Rattle.frame_image.proofs.RebuildLemmas.{none_rebuilt, all_rebuilt, rebuilds_just}
use Rattle.frame_image.proofs.Resealed.{exact_resealed, rebuilds_any}
use Rattle.frame_image.proofs.recovery.rebuild.Goals as goal

pub rebuild_children-requires-clause-none : goal.rebuild_children-requires-clause-none
rebuild_children-requires-clause-none c =
    let image = c.args.image.now in
    none_rebuilt (key_in image) image.words _
    (c.in_ok-rebuilt.ensures.words ∙ ap (λ (g : Geometry). blank_words (key_of g)) c.geometry.ensures.value)

pub returns-clause-again : goal.returns-clause-again
returns-clause-again c =
    let image = c.args.image.now in
    let is = c.geometry.ensures.in_range in
    rebuilds_just (key_in image) image.words _ is.in_range (all_rebuilt (key_in image) image.words is _ c.rebuild_trees.ensures.all)

pub returns-clause-any : goal.returns-clause-any
returns-clause-any c =
    let image = c.args.image.now in
    rebuilds_any image.geometry image.words _
    (all_rebuilt (key_in image) image.words c.geometry.ensures.in_range _ c.rebuild_trees.ensures.all)

pub returns-clause-opens : goal.returns-clause-opens
returns-clause-opens c =
    let image = c.args.image.now in
    let rebuilt = c.rebuild_trees.new.rebuilt in
    let is = c.geometry.ensures.in_range in
    let just = rebuilds_just (key_in image) image.words _ is.in_range
    (all_rebuilt (key_in image) image.words is _ c.rebuild_trees.ensures.all) in
    exact_resealed rebuilt.geometry rebuilt.words
    (subst (λ (g : Geometry). IsRebuilt (key_of g) rebuilt.words rebuilt.words) (sym c.rebuild_trees.ensures.geometry) just.rebuilt)
