use Rattle.std.proofs.Common.{◌≡◌, ◌+◌, ◌-◌, ◌*◌, ℕ, List, replicate, refl, ap, sym, arith, subst, ◌∙◌}
use Rattle.frame_words.specs.declared.geometry.Geometry.{Geometry}
use Rattle.frame_model.specs.declared.key.Key.{Key}
use Rattle.frame_core.specs.Image.{IsImage, IsUncounted, IsCountedBelow, HasSameBits}
use Rattle.frame_model.specs.Key.{key_of, tree_count}
use Rattle.frame_model.specs.Words.{word_count, bit_of}
use Rattle.frame_core.proofs.Counters.{uncounted_image, counted_opens}
use Rattle.frame_core.proofs.SetRuns.{boot_set, range_stays}
use Rattle.frame_core.proofs.FreshWords.{zeros_uncounted, zeros_clear}
use Rattle.frame_core.proofs.image.Image.with_ranges.Goals as goal

-- the words, where as many were made as the table has
zeros : (n m : ℕ) (ws : List ℕ) → ws ≡ replicate {A = ℕ} n 0 → n ≡ m → ws ≡ replicate {A = ℕ} m 0
zeros n m ws is e = let P : ℕ → List ℕ = λ k. replicate k 0 in is ∙ ap P e

pub hold-requires-clause-uncounted : goal.hold-requires-clause-uncounted
hold-requires-clause-uncounted c =
    let key : Key = key_of c.args.geometry.now in
    let made = c.in_ok-words.ensures.items_if_clones_equal (λ y e. e) in
    let is = zeros c.word_count.result (word_count key) c.in_ok-words.words.items made c.word_count.ensures in
    subst (IsUncounted key) (sym is) (zeros_uncounted key)

pub hold-requires-clause-inside : goal.hold-requires-clause-inside
hold-requires-clause-inside c =
    let geometry : Geometry = c.args.geometry.now in
    omega (arith, c.children.ensures.value, c.frames-frames.ensures.value, geometry.frames_in_children)

-- the run that is held first ends where the children do
last : (g : Geometry) (children frames : ℕ) → children ≡ g.children → frames ≡ g.frames
    → frames + (512 * children - frames) ≡ 512 * g.children
last g children frames c f = omega (arith, c, f, g.frames_in_children)

pub invariant_of-image : goal.invariant_of-image
invariant_of-image c =
    let geometry : Geometry = c.args.geometry.now in
    let key : Key = key_of geometry in
    let end = last geometry c.children.result c.frames-frames.result c.children.ensures.value c.frames-frames.ensures.value in
    uncounted_image key c.hold_ranges.new.words.items c.hold_ranges.ensures.uncounted
    (λ x p h. range_stays key c.args.ranges.now c.hold.new.words.items c.hold_ranges.new.words.items c.hold_ranges.ensures.set x
    (c.hold.ensures.set.inside x (omega (arith, p, c.frames-frames.ensures.value)) (omega (arith, h, end))))

pub returns-clause-opens : goal.returns-clause-opens
returns-clause-opens c =
    let geometry : Geometry = c.args.geometry.now in
    let key : Key = key_of geometry in
    let ranges : List (ℕ × ℕ) = c.args.ranges.now in
    let at : c.count_children.new.self.geometry ≡ geometry = c.count_children.ensures.geometry in
    let ws : List ℕ = c.count_trees.new.self.words in
    let first : List ℕ = c.in_ok-words.words.items in
    let second : List ℕ = c.hold.new.words.items in
    let third : List ℕ = c.hold_ranges.new.words.items in
    let fourth : List ℕ = c.count_children.new.self.words in
    let from : ℕ = c.frames-frames.result in
    let end : ℕ = from + (512 * c.children.result - from) in
    let made = c.in_ok-words.ensures.items_if_clones_equal (λ y e. e) in
    let is = zeros c.word_count.result (word_count key) first made c.word_count.ensures in
    let clear : (x : ℕ) → bit_of key first x ≡ 0 = λ x. ap (λ (l : List ℕ). bit_of key l x) is ∙ zeros_clear key x in
    let children = c.count_children.ensures.bits in
    let trees = subst (λ (g : Geometry). HasSameBits (key_of g) fourth ws) at c.count_trees.ensures.bits in
    let image = subst (λ (g : Geometry). IsImage (key_of g) ws) at c.count_trees.ensures.in_range in
    let counted =
    subst (λ (g : Geometry). IsCountedBelow (key_of g) ws g.children (tree_count (key_of g))) at c.count_trees.ensures.counted in
    counted_opens key ranges ws refl image.in_range counted
    (λ x h. trees x ∙ children x
    ∙ boot_set key ranges from end first second third c.frames-frames.ensures.value
    (last geometry c.children.result from c.children.ensures.value c.frames-frames.ensures.value) clear c.hold.ensures.set
    c.hold_ranges.ensures.set x h)
