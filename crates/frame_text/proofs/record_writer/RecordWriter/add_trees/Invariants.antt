use Rattle.std.proofs.Common.{◌≡◌, ◌++◌}
use Rattle.std.specs.List.{range_with_len}
use Rattle.frame_core.specs.Image.{key_in}
use Rattle.frame_text.specs.ImageText.{text_of, tree_rows}
use Rattle.frame_text.proofs.record_writer.RecordWriter.add_trees.Given as goal

abbrev pub invariant-loop-tree : goal.invariant-loop-tree
invariant-loop-tree l =
    l.self ≡ l.fn.self ++ text_of (tree_rows (key_in l.image) l.image.words (range_with_len 0 l.tree))
