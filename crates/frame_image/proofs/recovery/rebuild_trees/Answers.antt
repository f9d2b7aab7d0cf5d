use Rattle.std.proofs.Common.{◌≡◌, ◌≤◌, ◌<◌, ◌+◌, ◌∙◌, List, ℕ, ap, sym, subst, arith}
use Rattle.std.specs.List.{sum_by}
use Rattle.frame_words.specs.declared.geometry.Geometry.{Geometry}
use Rattle.frame_words.specs.Words.{entry_word}
use Rattle.frame_model.specs.declared.key.Key.{Key}
use Rattle.frame_model.specs.Key.{key_of, tree_count, children_of, size_of}
use Rattle.frame_model.specs.Words.{free_of}
use Rattle.frame_core.specs.Image.{Contents, key_in}
use Rattle.frame_image.specs.Rebuilding.{IsRebuiltBelow}
use Rattle.frame_image.proofs.RebuildLemmas.{tree_more, tree_as}
use Rattle.frame_image.proofs.recovery.rebuild_trees.Goals as goal

pub loop-tree-preserved : goal.loop-tree-preserved
loop-tree-preserved c =
    let old : List ℕ = c.args.image.now.words in
    let key : Key = key_in c.args.image.now in
    let ws : List ℕ = c.loop-tree.rebuilt.words in
    let t : ℕ = c.loop-tree.tree in
    let free : ℕ = c.free_frames-free.result in
    let inv = c.loop-tree.invariant in
    let trees = ap (λ (g : Geometry). tree_count (key_of g)) c.geometry-geometry.ensures.value in
    let S : Geometry → ℕ = λ g. size_of (key_of g) t in
    let F : Geometry → ℕ = λ g. sum_by (free_of ws) (children_of (key_of g) t) in
    let W : Contents → List ℕ = λ i. i.words in
    let G : Contents → Geometry = λ i. i.geometry in
    let there : t < tree_count key = omega (arith, c.loop-tree-test.true, c.trees-tree-end.ensures.value, trees) in
    let few : free ≤ size_of key t = omega (arith, c.free_frames-free.ensures.limit, ap S inv.geometry) in
    let sum : free ≡ sum_by (free_of ws) (children_of key t) = c.free_frames-free.ensures.value ∙ ap F inv.geometry in
    let more = tree_more key old c.geometry-geometry.ensures.in_range ws t free there inv.below sum few in
    let is = ap W c.set_tree.ensures ∙ tree_as _ key ws t (entry_word free 0) (ap key_of inv.geometry) in
    record {
      geometry = ap G c.set_tree.ensures ∙ inv.geometry;
      below = subst (λ (l : List ℕ). IsRebuiltBelow key old l key.children (t + 1)) (sym is) more;
    }
