use Rattle.std.proofs.Common.{◌≤◌, ◌∙◌, ap, arith}
use Rattle.std.proofs.lemmas.Result.{IfOk-weaker}
use Rattle.frame_words.specs.Geometry.{most_text_cores}
use Rattle.frame_words.specs.declared.geometry.Geometry.{Geometry}
use Rattle.frame_text.specs.ImageText.{image_of}
use Rattle.frame_text.proofs.WholeTrip.{image_of-picture_of}
use Rattle.frame_text.proofs.image_writer.image_text.Goals as goal

pub returns-clause-read_back : goal.returns-clause-read_back
returns-clause-read_back c =
    let same = ap (λ (g : Geometry). g.cores) c.geometry-geometry.ensures.value in
    let few : c.args.image.now.geometry.cores ≤ most_text_cores =
    omega (arith, same, c.cores.ensures.value, c.if-cores-gt-MOST_TEXT_CORES.false) in
    IfOk-weaker c.all_records.result _ _
    (λ text h. ap image_of h ∙ image_of-picture_of c.args.image.now few c.geometry-geometry.ensures.in_range)
    c.all_records.ensures.text
