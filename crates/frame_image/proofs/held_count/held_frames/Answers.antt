use Rattle.std.proofs.Common.{◌≡◌, ◌∙◌, ◌+◌, ℕ, ap, sym, arith}
use Rattle.std.specs.List.{sum_by, range_with_len}
use Rattle.frame_words.specs.declared.geometry.Geometry.{Geometry}
use Rattle.frame_core.specs.Image.{key_in}
use Rattle.frame_model.specs.Words.{held_of}
use Rattle.frame_model.proofs.ReportLemmas.{range_split, held_frames-all}
use Rattle.frame_image.proofs.held_count.held_frames.Goals as goal

-- the children of an image
children_of : Geometry → ℕ
children_of g = g.children

pub loop-child-preserved : goal.loop-child-preserved
loop-child-preserved c =
    let image = c.args.image.now in
    let child : ℕ = c.loop-child.child in
    let held : ℕ → ℕ = held_of (key_in image) image.words in
    let one = c.held_in_child-held.ensures in
    record {
      counted = omega (arith, c.loop-child.invariant.counted, one.value, range_split held 0 child 1, last held child);
      few = omega (arith, c.loop-child.invariant.few, one.limit);
    }
  where
    last : (f : ℕ → ℕ) (n : ℕ) → sum_by f (range_with_len (0 + n) 1) ≡ f n
    last f n = let place : 0 + n ≡ n = omega arith in omega (arith, ap f place)

pub returns-clause-value : goal.returns-clause-value
unfolding children_of
returns-clause-value c =
    let image = c.args.image.now in
    let held : ℕ → ℕ = held_of (key_in image) image.words in
    let all : c.loop-child.child ≡ image.geometry.children =
    omega (arith, c.loop-child-test.false, c.loop-child.auto.child-end, ap children_of c.geometry-geometry.ensures.value) in
    c.loop-child.invariant.counted ∙ ap (λ n. sum_by held (range_with_len 0 n)) all
    ∙ sym (held_frames-all (key_in image) image.words c.geometry-geometry.ensures.in_range.in_range)
