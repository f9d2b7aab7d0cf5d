use Rattle.std.proofs.Common.{◌∙◌, arith}
use Rattle.frame_image.proofs.Tables.{no_rows, table_more}
use Rattle.frame_image.proofs.report_writer.report_text.Goals as goal

pub loop-tree-init : goal.loop-tree-init
loop-tree-init c = c.new-writer.ensures ∙ no_rows

pub loop-tree-preserved : goal.loop-tree-preserved
loop-tree-preserved c =
    table_more c.args.report.now.trees c.loop-tree.tree _ _ _ _ (omega (arith, c.loop-tree-test.true, c.trees-tree-end.ensures))
    c.loop-tree.invariant
    (c.as_bytes-place.ensures.value ∙ c.format.ensures.text) c.of_tree.ensures c.in_ok-add_numbers.ensures.text
