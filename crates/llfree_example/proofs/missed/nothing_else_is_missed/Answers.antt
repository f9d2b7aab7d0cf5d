use Rattle.std.proofs.Common.{rules}
use Rattle.llfree_example.proofs.Missing.{nothing_else}
use Rattle.llfree_example.proofs.missed.nothing_else_is_missed.Goals as goal

-- that nobody has a part of the block is left to the search
pub returns : goal.returns
returns c key shares words views order b fit none searched is nobody =
    nothing_else c.searches_miss_what_is_withheld.ensures.withheld key shares words views order b fit none searched is
    (search rules) (search rules) (search rules)
