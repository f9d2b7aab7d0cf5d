use Rattle.std.proofs.Common.{◌≡◌, ◌+◌, ◌<◌, ◌≤◌, ℕ, List, arith, ap, sym, subst, ◌∙◌}
use Rattle.frame_words.specs.declared.geometry.Geometry.{Geometry}
use Rattle.frame_words.specs.Words.{entry_word}
use Rattle.std.specs.List.{sum_by}
use Rattle.frame_model.specs.declared.key.Key.{Key}
use Rattle.frame_core.specs.Image.{Contents, key_in, IsImage, IsCountedBelow}
use Rattle.frame_model.specs.Key.{key_of, tree_count, children_of, size_of}
use Rattle.frame_model.specs.Words.{bit_of, free_of, with_tree}
use Rattle.frame_core.proofs.Counters.{tree_counted}
use Rattle.frame_core.proofs.image.Image.count_trees.Goals as goal

pub loop-tree-preserved : goal.loop-tree-preserved
loop-tree-preserved c =
    let key : Key = key_in c.args.self.now in
    let ws : List ℕ = c.loop-tree.self.words in
    let t : ℕ = c.loop-tree.tree in
    let free : ℕ = c.free_frames-free.result in
    let inv = c.loop-tree.invariant in
    let T : Geometry → ℕ = λ g. tree_count (key_of g) in
    let S : Geometry → ℕ = λ g. size_of (key_of g) t in
    let F : Geometry → ℕ = λ g. sum_by (free_of ws) (children_of (key_of g) t) in
    let N : Geometry → List ℕ = λ g. with_tree (key_of g) ws t (entry_word free 0) in
    let few : free ≤ size_of key t = omega (arith, c.free_frames-free.ensures.limit, ap S inv.geometry) in
    let there : t < tree_count key = omega (arith, ap T c.geometry-geometry.ensures.value) in
    let sum = c.free_frames-free.ensures.value ∙ ap F inv.geometry in
    let made = tree_counted key ws t free inv.image inv.counted there sum few in
    let W : Contents → List ℕ = λ i. i.words in
    let G : Contents → Geometry = λ i. i.geometry in
    let is : c.set_tree.new.self.words ≡ with_tree key ws t (entry_word free 0) = ap W c.set_tree.ensures ∙ ap N inv.geometry in
    record {
      geometry = ap G c.set_tree.ensures ∙ inv.geometry;
      image = subst (IsImage key) (sym is) made.image;
      bits = λ x. ap (λ (l : List ℕ). bit_of key l x) is ∙ made.bits x ∙ inv.bits x;
      counted = subst (λ (l : List ℕ). IsCountedBelow key l key.children (t + 1)) (sym is) made.counted;
    }
