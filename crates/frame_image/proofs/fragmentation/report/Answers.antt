use Rattle.std.proofs.Common.{◌≡◌, ◌≤◌, ◌<◌, ◌∙◌, ◌+◌, ◌*◌, ◌++◌, ◌∷◌, [], ℕ, List, min, map, refl, ap, sym, arith}
use Rattle.std.specs.List.{range_with_len}
use Rattle.std.proofs.lemmas.List.FromFn.{map-range_with_len_more}
use Rattle.frame_words.specs.declared.geometry.Geometry.{Geometry}
use Rattle.frame_model.specs.declared.key.Key.{Key}
use Rattle.frame_model.specs.Key.{key_of, size_of, tree_count}
use Rattle.frame_core.specs.Image.{key_in}
use Rattle.frame_image.specs.Tally.{tree_numbers}
use Rattle.frame_image.proofs.CountLemmas.{zero_numbers, numbers_more, numbers_fit, tree_is, tally_is}
use Rattle.frame_image.proofs.fragmentation.report.Goals as goal

pub loop-tree-init : goal.loop-tree-init
loop-tree-init c =
    let image = c.args.image.now in
    record {
      trees = c.in_ok-trees.ensures.items;
      counted = λ i h. zero_numbers (key_in image) image.words 0 (512 * min 0 image.geometry.children) i (omega arith);
      size = refl;
    }

pub add-requires : goal.add-requires
add-requires c =
    let image = c.args.image.now in
    let key : Key = key_in image in
    let tree : ℕ = c.loop-tree.tree in
    let trees = ap (λ (g : Geometry). tree_count (key_of g)) c.geometry-geometry.ensures.value in
    let children = ap (λ (g : Geometry). g.children) c.geometry-geometry.ensures.value in
    let there : tree < tree_count key = omega (arith, c.loop-tree-test.true, c.trees-tree-end.ensures.value, trees) in
    let few : image.geometry.children ≤ 4096 = omega (arith, children, c.geometry-geometry.result.few_children) in
    let next = c.count_tree-numbers.ensures ∙ tree_is key image.words tree in
    numbers_fit key image.words 0 (512 * min (8 * tree) key.children) (size_of key tree) (512 * min (8 * (tree + 1)) key.children)
    (4096 * tree) (min (8 * tree) key.children)
    refl (omega (arith, there)) (omega (arith, there)) c.loop-tree.all c.count_tree-numbers.result c.loop-tree.invariant.counted next
    (omega (arith, few))

pub loop-tree-preserved : goal.loop-tree-preserved
loop-tree-preserved c =
    let image = c.args.image.now in
    let key : Key = key_in image in
    let tree : ℕ = c.loop-tree.tree in
    let trees = ap (λ (g : Geometry). tree_count (key_of g)) c.geometry-geometry.ensures.value in
    let there : tree < tree_count key = omega (arith, c.loop-tree-test.true, c.trees-tree-end.ensures.value, trees) in
    let next = c.count_tree-numbers.ensures ∙ tree_is key image.words tree in
    let rows : List (List ℕ) = map (tree_numbers key image.words) (range_with_len 0 tree) in
    let place : 0 + tree ≡ tree = omega arith in
    record {
      trees =
          c.in_ok-push.ensures.items
          ∙ ap (λ (l : List (List ℕ)). l ++ c.count_tree-numbers.result ∷ []) c.loop-tree.invariant.trees
          ∙ ap (λ (n : List ℕ). rows ++ n ∷ []) c.count_tree-numbers.ensures
          ∙ sym (map-range_with_len_more (tree_numbers key image.words) 0 tree tree place);
      counted =
          numbers_more key image.words 0 (512 * min (8 * tree) key.children) (size_of key tree) (512 * min (8 * (tree + 1)) key.children)
          (4096 * tree) (min (8 * tree) key.children)
          refl (omega (arith, there)) (omega (arith, there)) c.loop-tree.all c.count_tree-numbers.result c.loop-tree.invariant.counted
          next c.add.new.sum c.add.ensures;
      size = c.add.array_long;
    }

pub returns-clause-counted : goal.returns-clause-counted
returns-clause-counted c =
    let image = c.args.image.now in
    let key : Key = key_in image in
    let trees = ap (λ (g : Geometry). tree_count (key_of g)) c.geometry-geometry.ensures.value in
    let all : c.loop-tree.tree ≡ tree_count key =
    omega (arith, c.loop-tree-test.false, c.loop-tree.auto.tree-end, c.trees-tree-end.ensures.value, trees) in
    c.of.ensures
    ∙ tally_is key image.words c.loop-tree.trees.items c.loop-tree.all (512 * min (8 * c.loop-tree.tree) key.children) (omega (arith, all))
    (c.loop-tree.invariant.trees ∙ ap (λ n. map (tree_numbers key image.words) (range_with_len 0 n)) all) c.loop-tree.invariant.size
    c.loop-tree.invariant.counted
