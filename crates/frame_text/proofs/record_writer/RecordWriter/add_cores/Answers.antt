use Rattle.std.proofs.Common.{◌≡◌, ◌∙◌, ◌++◌, ap}
use Rattle.csv.specs.Writing.{default_writer, row_text}
use Rattle.frame_core.specs.Image.{key_in}
use Rattle.frame_text.specs.ImageText.{core_row, rest_row}
use Rattle.frame_text.proofs.Writing.{text_more, core_row_is}
use Rattle.frame_text.proofs.record_writer.RecordWriter.add_cores.Goals as goal

pub loop-core-preserved : goal.loop-core-preserved
loop-core-preserved c =
    let image = c.args.image.now in
    let row : rest_row c.loop-core.core c.local_at.result ≡ core_row (key_in image) image.words c.loop-core.core =
    core_row_is _ _ _ _ c.local_at.ensures in
    text_more (core_row (key_in image) image.words) _ _ _ c.loop-core.core c.loop-core.invariant
    (c.in_ok-add_core.ensures.text ∙ ap (λ r. c.loop-core.self ++ row_text default_writer r) row)
