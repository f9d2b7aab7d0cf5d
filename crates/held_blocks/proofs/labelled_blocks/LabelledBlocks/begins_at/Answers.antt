use Rattle.std.proofs.Common.{ap}
use Rattle.held_blocks.proofs.Outcomes.{true_if_some, false_if_none}
use Rattle.held_blocks.proofs.StoreLemmas.{some_begins}
use Rattle.held_blocks.proofs.labelled_blocks.LabelledBlocks.begins_at.Goals as goal

pub returns-clause-yes : goal.returns-clause-yes
returns-clause-yes c =
    let store = c.self.inside.store in
    let begins =
    true_if_some c.frame_slot.result c.is_some.result _ _ c.is_some.ensures
    (λ place h. some_begins store.finds c.args.frame place h) c.frame_slot.ensures.found in
    rw (ap (λ list. list.entries) c.self.view_is) at begins

pub returns-clause-no : goal.returns-clause-no
returns-clause-no c =
    let none = false_if_none c.frame_slot.result c.is_some.result _ c.is_some.ensures c.frame_slot.ensures.none in
    rw (ap (λ list. list.entries) c.self.view_is) at none
