use Rattle.std.proofs.Common.{arith}
use Rattle.llfree_trace.specs.Rounds.{asks_from}
use Rattle.llfree_trace.proofs.Merging.{fitting, round_ran}
use Rattle.llfree_trace.proofs.Workers.{asks_inside}
use Rattle.llfree_trace.proofs.merge.answer_round.Goals as goal

pub merge-requires-clause-fit : goal.merge-requires-clause-fit
merge-requires-clause-fit g c =
    let inside = asks_inside c.args.first c.args.lines.now c.args.named in
    rw c.as_slice.ensures.value
    (fitting c.args.allocator.now c.args.desks.items (asks_from c.args.first c.args.lines.now)
    c.in_ok-done.done.items c.in_ok-done.ensures.ran
    (λ i d lt. omega (arith, inside i d c.requires.all.asks c.requires.inside lt, c.requires.named, c.args.desks.ok)))

pub returns-clause-round : goal.returns-clause-round
returns-clause-round g c =
    let merged = rw c.as_slice.ensures.value at c.in_ok-answers.ensures.merged in
    round_ran c.args.allocator.now c.args.desks.items (asks_from c.args.first c.args.lines.now)
    c.in_ok-done.done.items c.in_ok-answers.answers.items c.in_ok-desks.desks.items
    c.in_ok-done.ensures.ran merged c.in_ok-desks.ensures.desks
