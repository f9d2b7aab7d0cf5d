use Rattle.std.proofs.Common.{arith}
use Rattle.low_frames.proofs.PlaceLemmas.{takes_child_at, takes_at_most}
use Rattle.low_frames.proofs.places.take_at.Goals as goal

pub returns-then-order-eq-HUGE_ORDER : goal.returns-then-order-eq-HUGE_ORDER
returns-then-order-eq-HUGE_ORDER g c =
    let M = g.M.Moves in
    takes_child_at c.child_of.result c.args.frame c.args.order c.take_huge.result (M.at c.args.m.now) (M.at c.take_huge.new.m)
    g.met.M.Moves.ticks c.if-order-eq-HUGE_ORDER.true c.child_of.ensures c.requires.is_block c.take_huge.ensures

pub returns-else-order-gt-WORD_ORDER : goal.returns-else-order-gt-WORD_ORDER
returns-else-order-gt-WORD_ORDER g c = takes_at_most g.met.M.Moves.ticks (omega arith) c.take_run_at.ensures
