use Rattle.llfree_example.proofs.Given.{never_refused}
use Rattle.llfree_example.proofs.one_core.give_and_take.Goals as goal

pub returns-clause-taken : goal.returns-clause-taken
returns-clause-taken c =
    never_refused c.args.allocator.now c.args.block c.args.core.now c.give.new.core c.take.new.core c.order-order.result
    c.take.result c.requires.block c.requires.sure c.give.ensures.alone (c.give.ensures.sure c.requires.sure.0) c.order-order.ensures c.take.ensures.takes.err
