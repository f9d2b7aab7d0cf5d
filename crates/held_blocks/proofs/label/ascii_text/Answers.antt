use Rattle.held_blocks.proofs.LabelLemmas.{label_short, label_text}
use Rattle.held_blocks.proofs.label.ascii_text.Goals as goal

pub unreachable-requires : goal.unreachable-requires
unreachable-requires c = c.in-Err.ensures.cases.0 (label_text _ c.requires)

pub returns-clause-short : goal.returns-clause-short
returns-clause-short c = label_short _ c.requires
