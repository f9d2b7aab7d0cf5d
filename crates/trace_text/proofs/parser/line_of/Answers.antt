use Rattle.std.proofs.Common.{rules}
use Rattle.trace_text.specs.TraceText.{line_of}
use Rattle.trace_text.proofs.Fields.{all_of_four}
use Rattle.trace_text.proofs.parser.line_of.Goals as goal

pub returns-clause-value : goal.returns-clause-value
unfolding line_of
returns-clause-value c =
    let four = all_of_four _ _ _ _ _ (search rules) c.field.ensures c.field-2.ensures c.field-3.ensures c.field-4.ensures in
    rw four c.record_of.ensures.value
