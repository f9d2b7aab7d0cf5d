use Rattle.std.proofs.Common.{◌≡◌, ◌≢◌, ◌∙◌, ℕ, ap, arith}
use Rattle.frame_words.specs.declared.geometry.Geometry.{Geometry}
use Rattle.frame_model.specs.Key.{key_of}
use Rattle.frame_core.specs.Image.{key_in}
use Rattle.frame_text.specs.ImageText.{part_count}
use Rattle.frame_text.proofs.PartLemmas.{parts_more, parts_refused, parts_all, parts_missing}
use Rattle.frame_text.proofs.image_reader.read_parts.Goals as goal

-- how many parts an image of this geometry has
parts : Geometry → ℕ
parts g = part_count (key_of g)

pub returns-then-part-parts-clause-found : goal.returns-then-part-parts-clause-found
unfolding parts
returns-then-part-parts-clause-found c =
    let all : c.loop-image.part ≡ part_count (key_in c.args.image) =
    omega (arith, c.if-part-parts.true, c.part_count-parts.ensures, ap parts c.geometry.ensures.value) in
    c.loop-image.invariant.reads ∙ rw (c.in_ok-read.ensures.none c.if-not-branch.true) (parts_all _ _ _ all)

pub returns-else-part-parts-clause-refused : goal.returns-else-part-parts-clause-refused
unfolding parts
returns-else-part-parts-clause-refused c =
    let some : c.loop-image.part ≢ part_count (key_in c.args.image) =
    λ e. c.if-part-parts.false
    (omega (arith, e, c.part_count-parts.ensures, ap parts c.geometry.ensures.value)) in
    c.loop-image.invariant.reads ∙ rw (c.in_ok-read.ensures.none c.if-not-branch.true) (parts_missing _ _ _ some)

pub returns-then-not-read_part-clause-refused : goal.returns-then-not-read_part-clause-refused
returns-then-not-read_part-clause-refused c =
    let inv = c.loop-image.invariant in
    let refused = rw inv.geometry at c.if-not-read_part.ensures.refused in
    inv.reads ∙ rw (c.in_ok-read.ensures.found c.if-not-branch.false) (parts_refused _ _ _ _ _ refused)

pub loop-image-preserved : goal.loop-image-preserved
loop-image-preserved c =
    let inv = c.loop-image.invariant in
    let said = rw inv.geometry at c.if-not-read_part.ensures.read in
    let last = rw inv.geometry at c.if-not-read_part.ensures.last in
    record {
      reads = inv.reads ∙ rw (c.in_ok-read.ensures.found c.if-not-branch.false) (parts_more _ _ _ _ _ _ said);
      geometry = c.read_part.ensures.geometry ∙ inv.geometry;
      few = omega (arith, last);
    }
