use Rattle.std.proofs.Common.{arith}
use Rattle.llfree_trace.proofs.GoingOn.{goes_round}
use Rattle.llfree_trace.proofs.progress.run_asks.Goals as goal

pub returns-clause-goes : goal.returns-clause-goes
returns-clause-goes g c =
    goes_round c.args.allocator.now c.args.number c.args.lines.now c.args.progress _ c.in_ok-desks.more.items c.requires.all.desks
    c.requires.all.asks (λ k d lt. omega (arith, c.requires.inside k d lt, c.requires.named, c.args.progress.desks.ok))
    c.in_ok-desks.ensures.round c.in_ok-answers.ensures.answers
