use Rattle.std.proofs.Common.{◌≡◌, ◌∙◌, ◌+◌, ◌-◌, ◌*◌, List, ℕ, ap, sym, subst, arith}
use Rattle.std.specs.Prelude.{slice_index}
use Rattle.frame_words.specs.declared.geometry.Geometry.{Geometry}
use Rattle.frame_words.specs.Words.{flag}
use Rattle.frame_model.specs.Key.{key_of}
use Rattle.frame_model.specs.Words.{huge_of}
use Rattle.frame_core.specs.Image.{key_in, SetsPastEnd}
use Rattle.frame_text.specs.ImageText.{child_bits}
use Rattle.frame_text.proofs.PastEnd.{child_past, huge_whole, whole_past}
use Rattle.frame_image.proofs.RebuildLemmas.{huge_child, small_child, huge_entry, small_entry, child_as}
use Rattle.frame_image.proofs.recovery.rebuild_child.Goals as goal

pub returns-then-huge : goal.returns-then-huge
returns-then-huge c =
    let old = c.args.image.now.words in
    let child = c.args.child in
    let up : huge_of old child ≡ 1 = sym c.huge.ensures ∙ ap flag c.if-huge.true in
    c.set_child.ensures
    ∙ child_as c.args.rebuilt.now _ _ child _ _ _ _ (ap key_of c.requires.geometry) (huge_entry _ old child up)
    (sym (huge_child _ old child (λ e. omega (arith, up, e))))

pub returns-else-huge : goal.returns-else-huge
returns-else-huge c =
    let old = c.args.image.now.words in
    let child = c.args.child in
    let down : huge_of old child ≡ 0 = sym c.huge.ensures ∙ ap flag c.if-huge.false in
    c.set_child-else-huge.ensures
    ∙ child_as c.args.rebuilt.now _ _ child _ _ _ _ (ap key_of c.requires.geometry)
    (small_entry _ old child _ down (ap (λ n. 512 - n) c.set_frames.ensures.value))
    (c.child_bits-words.ensures ∙ sym (small_child _ old child down))

-- the same frames, by the other image's geometry
frames_of : Geometry → ℕ
frames_of g = g.frames

pub set_child-requires-clause-whole : goal.set_child-requires-clause-whole
unfolding frames_of
set_child-requires-clause-whole c _ =
    let image = c.args.image.now in
    let up : huge_of image.words c.args.child ≡ 1 = sym c.huge.ensures ∙ ap flag c.if-huge.true in
    let whole = huge_whole (key_in image) image.words c.requires.in_range c.args.child c.requires.child (λ e. omega (arith, up, e)) in
    omega (arith, ap frames_of c.requires.geometry, whole)

pub set_child-requires-clause-past_end : goal.set_child-requires-clause-past_end
set_child-requires-clause-past_end c w few =
    let image = c.args.image.now in
    let up : huge_of image.words c.args.child ≡ 1 = sym c.huge.ensures ∙ ap flag c.if-huge.true in
    subst (λ (g : Geometry). SetsPastEnd (key_of g) (8 * c.args.child + w) _) (sym c.requires.geometry)
    (whole_past (key_in image) c.args.child (8 * c.args.child + w) _ (omega (arith, few))
    (huge_whole (key_in image) image.words c.requires.in_range c.args.child c.requires.child (λ e. omega (arith, up, e))))

pub set_child-requires-else-huge-clause-past_end : goal.set_child-requires-else-huge-clause-past_end
set_child-requires-else-huge-clause-past_end c w few =
    let image = c.args.image.now in
    let child : ℕ = c.args.child in
    let P : List ℕ → Type 0 = λ xs. SetsPastEnd (key_in c.args.rebuilt.now) (8 * child + w) (slice_index xs w) in
    subst P (sym c.child_bits-words.ensures)
    (subst (λ (g : Geometry). SetsPastEnd (key_of g) (8 * child + w) (slice_index (child_bits (key_in image) image.words child) w))
    (sym c.requires.geometry)
    (child_past (key_in image) image.words c.requires.in_range child c.requires.child w few))
