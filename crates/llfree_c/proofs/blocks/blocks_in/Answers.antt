use Rattle.std.proofs.Common.{rules}
use Rattle.std.proofs.lemmas.List.Sorted.{IsNonDecreasingBy-from_sort_by_key}
use Rattle.llfree_c.proofs.blocks.blocks_in.Goals as goal

pub returns-clause-ascend : goal.returns-clause-ascend
returns-clause-ascend c =
    IsNonDecreasingBy-from_sort_by_key (λ b. b.frame) _ c.sort_unstable_by_key.ensures.sorted (λ a r q k. search rules)
