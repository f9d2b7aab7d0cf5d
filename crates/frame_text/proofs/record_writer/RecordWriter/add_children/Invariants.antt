use Rattle.std.proofs.Common.{◌≡◌, ◌++◌}
use Rattle.std.specs.List.{range_with_len}
use Rattle.frame_core.specs.Image.{key_in}
use Rattle.frame_text.specs.ImageText.{text_of, child_rows}
use Rattle.frame_text.proofs.record_writer.RecordWriter.add_children.Given as goal

abbrev pub invariant-loop-child : goal.invariant-loop-child
invariant-loop-child l =
    l.self ≡ l.fn.self ++ text_of (child_rows (key_in l.image) l.image.words (range_with_len 0 l.child))
