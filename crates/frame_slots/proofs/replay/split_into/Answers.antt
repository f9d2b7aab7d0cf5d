use Rattle.std.proofs.Common.{List, [], ◌∷◌, ◌++◌, ap, ◌∙◌}
use Rattle.frame_table.specs.declared.block.Block.{Block}
use Rattle.frame_slots.proofs.replay.split_into.Goals as goal

pub returns-clause-split : goal.returns-clause-split
returns-clause-split c = record {
  lower = c.in-Ok.lower;
  upper = c.in-Ok.upper;
  waiting = c.in_ok-push_onto-2.ensures.pushed
      ∙ ap (λ (bs : List Block). bs ++ c.in-Ok.upper ∷ []) c.in_ok-push_onto.ensures.pushed;
  split = c.in-Ok.ensures.splits.ok;
  kept = c.in-Ok.ensures.splits.kept;
}
