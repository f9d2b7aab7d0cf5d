use Rattle.std.proofs.Common.{rules, ◌≢◌, length}
use Rattle.llfree_c.specs.Status.{ok}
use Rattle.llfree_c.proofs.ReopenedZones.{reopens}
use Rattle.llfree_c.proofs.reopen_calls.llfree_reopen.Goals as goal

pub returns-in-Ok-clause-open : goal.returns-in-Ok-clause-open
returns-in-Ok-clause-open c =
    let one = c.in-Ok.ensures.cores in
    let at = one.2 in
    λ _. (
      c.in-Ok.ensures.closed,
      (
        one.0,
        at.0,
        one.1,
        at.1,
        reopens (length c.args.handles.now) one.0 c.args.numbers.now at.0 c.in-Ok.cores.items c.hand_over.new.handles
            c.hand_over.ensures.order c.hand_over.ensures.shares at.2,
      ),
    )

pub returns-in-Err-clause-open : goal.returns-in-Err-clause-open
returns-in-Err-clause-open c =
    let refused : c.in-Err.status ≢ ok = search rules in
    λ e. absurd (refused e)
