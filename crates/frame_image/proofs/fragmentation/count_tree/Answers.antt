use Rattle.std.proofs.Common.{◌≡◌, ◌≤◌, ◌+◌, ◌-◌, ◌*◌, ℕ, refl, ap, arith}
use Rattle.frame_words.specs.declared.geometry.Geometry.{Geometry}
use Rattle.frame_model.specs.Key.{size_of}
use Rattle.frame_core.specs.Image.{key_in}
use Rattle.frame_image.proofs.CountLemmas.{zero_numbers, numbers_more, numbers_fit, tree_all}
use Rattle.frame_image.proofs.fragmentation.count_tree.Goals as goal

pub loop-child-init : goal.loop-child-init
loop-child-init c =
    let image = c.args.image.now in
    record {
      counted = λ i h. zero_numbers (key_in image) image.words (512 * (8 * c.args.tree)) (512 * (8 * c.args.tree - 8 * c.args.tree)) i
          (omega arith);
      size = refl;
    }

pub add-requires : goal.add-requires
add-requires c =
    let image = c.args.image.now in
    let t : ℕ = c.args.tree in
    let child : ℕ = c.loop-child.child in
    let low : 8 * t ≤ child = omega (arith, c.loop-child.auto.child) in
    let few : child ≤ 4096 = omega (arith, c.loop-child-test.true, c.min-end.ensures, c.children.ensures.limits) in
    numbers_fit (key_in image) image.words (512 * (8 * t)) (512 * (child - 8 * t)) 512 (512 * (child + 1 - 8 * t)) (512 * child)
    (child - 8 * t)
    refl (omega (arith, low)) (omega (arith, low)) c.loop-child.sum c.count_child-numbers.result c.loop-child.invariant.counted
    c.count_child-numbers.ensures (omega (arith, few))

pub loop-child-preserved : goal.loop-child-preserved
loop-child-preserved c =
    let image = c.args.image.now in
    let t : ℕ = c.args.tree in
    let child : ℕ = c.loop-child.child in
    let low : 8 * t ≤ child = omega (arith, c.loop-child.auto.child) in
    record {
      counted =
          numbers_more (key_in image) image.words (512 * (8 * t)) (512 * (child - 8 * t)) 512 (512 * (child + 1 - 8 * t)) (512 * child)
          (child - 8 * t)
          refl (omega (arith, low)) (omega (arith, low)) c.loop-child.sum c.count_child-numbers.result c.loop-child.invariant.counted
          c.count_child-numbers.ensures c.add.new.sum c.add.ensures;
      size = c.add.array_long;
    }

pub returns : goal.returns
returns c =
    let image = c.args.image.now in
    let t : ℕ = c.args.tree in
    let C : Geometry → ℕ = λ g. g.children in
    let size : 512 * (c.loop-child.child - 8 * t) ≡ size_of (key_in image) t =
    omega (
      arith,
      c.requires,
      c.loop-child-test.false,
      c.loop-child.auto.child,
      c.loop-child.auto.child-end,
      c.min-end.ensures,
      c.children.ensures.value,
      ap C c.geometry-geometry.ensures.value,
    ) in
    tree_all (key_in image) image.words t c.loop-child.sum (512 * (c.loop-child.child - 8 * t)) size c.loop-child.invariant.size
    c.loop-child.invariant.counted
