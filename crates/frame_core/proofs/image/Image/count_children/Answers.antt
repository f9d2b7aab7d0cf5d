use Rattle.std.proofs.Common.{◌≡◌, ◌+◌, ◌-◌, ◌<◌, ℕ, List, arith, ap, sym, subst, ◌∙◌}
use Rattle.frame_words.specs.declared.geometry.Geometry.{Geometry}
use Rattle.frame_words.specs.Words.{entry_word}
use Rattle.frame_model.specs.declared.key.Key.{Key}
use Rattle.frame_core.specs.Image.{Contents, key_in, IsImage, IsCountedBelow}
use Rattle.frame_model.specs.Key.{key_of}
use Rattle.frame_model.specs.Words.{bit_of, set_of, with_entry}
use Rattle.frame_core.proofs.Counters.{child_counted}
use Rattle.frame_core.proofs.image.Image.count_children.Goals as goal

pub loop-child-preserved : goal.loop-child-preserved
loop-child-preserved c =
    let key : Key = key_in c.args.self.now in
    let ws : List ℕ = c.loop-child.self.words in
    let child : ℕ = c.loop-child.child in
    let free : ℕ = 512 - c.set_frames-set.result in
    let inv = c.loop-child.invariant in
    let C : Geometry → ℕ = λ g. g.children in
    let S : Geometry → ℕ = λ g. set_of (key_of g) ws child in
    let sum : free + set_of key ws child ≡ 512 = omega (
      arith,
      c.set_frames-set.ensures.value,
      c.set_frames-set.ensures.limit,
      ap S
          inv.geometry,
    ) in
    let there : child < key.children = omega (arith, ap C c.geometry-geometry.ensures.value) in
    let made = child_counted key ws child free inv.image inv.counted there sum in
    let W : Contents → List ℕ = λ i. i.words in
    let G : Contents → Geometry = λ i. i.geometry in
    let is : c.set_entry.new.self.words ≡ with_entry ws child (entry_word free 0) = ap W c.set_entry.ensures in
    record {
      geometry = ap G c.set_entry.ensures ∙ inv.geometry;
      image = subst (IsImage key) (sym is) made.image;
      bits = λ x. ap (λ (l : List ℕ). bit_of key l x) is ∙ made.bits x ∙ inv.bits x;
      counted = subst (λ (l : List ℕ). IsCountedBelow key l (child + 1) 0) (sym is) made.counted;
    }
