use Rattle.std.proofs.Common.{◌∙◌, ◌<◌, ◌+◌, List, ℕ, ap, sym, subst, arith}
use Rattle.frame_words.specs.declared.geometry.Geometry.{Geometry}
use Rattle.frame_model.specs.declared.key.Key.{Key}
use Rattle.frame_core.specs.Image.{Contents, key_in}
use Rattle.frame_image.specs.Rebuilding.{IsRebuiltBelow}
use Rattle.frame_image.proofs.RebuildLemmas.{child_more}
use Rattle.frame_image.proofs.recovery.rebuild_children.Goals as goal

pub loop-child-preserved : goal.loop-child-preserved
loop-child-preserved c =
    let old : List ℕ = c.args.image.now.words in
    let key : Key = key_in c.args.image.now in
    let child : ℕ = c.loop-child.child in
    let C : Geometry → ℕ = λ g. g.children in
    let W : Contents → List ℕ = λ i. i.words in
    let G : Contents → Geometry = λ i. i.geometry in
    let inv = c.loop-child.invariant in
    let there : child < key.children = omega (arith, c.loop-child-test.true, ap C c.geometry-geometry.ensures.value) in
    let more = child_more key old c.geometry-geometry.ensures.in_range c.loop-child.rebuilt.words child there inv.below in
    record {
      geometry = ap G c.rebuild_child.ensures ∙ inv.geometry;
      below = subst (λ (l : List ℕ). IsRebuiltBelow key old l (child + 1) 0) (sym (ap W c.rebuild_child.ensures)) more;
    }
