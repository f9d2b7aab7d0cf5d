use Rattle.std.proofs.Common.{◌≡◌, ◌++◌}
use Rattle.std.specs.List.{range_with_len}
use Rattle.frame_core.specs.Image.{key_in}
use Rattle.frame_text.specs.ImageText.{text_of, core_rows}
use Rattle.frame_text.proofs.record_writer.RecordWriter.add_cores.Given as goal

abbrev pub invariant-loop-core : goal.invariant-loop-core
invariant-loop-core l =
    l.self ≡ l.fn.self ++ text_of (core_rows (key_in l.image) l.image.words (range_with_len 0 l.core))
