use Rattle.std.proofs.Common.{rules, length, ◌≢◌}
use Rattle.llfree_c.specs.Openings.{pairs_of}
use Rattle.llfree_c.specs.Status.{ok}
use Rattle.llfree_c.proofs.OpenedZones.{opens_in}
use Rattle.llfree_c.proofs.core_openings.open_even.Goals as goal

pub returns-in-Ok-clause-open : goal.returns-in-Ok-clause-open
returns-in-Ok-clause-open c =
    let one = c.in-Ok.ensures.cores in
    let over = c.hand_over in
    λ e. (
      c.in-Ok.ensures.closed,
      (
        one.0,
        one.1,
        opens_in c.args.has_slots (length c.args.handles.now) one.0 (pairs_of c.args.ranges.now) c.in-Ok.cores.items
            over.new.handles one.2 over.ensures.order over.ensures.shares over.ensures.unused,
      ),
    )

pub returns-in-Err-clause-open : goal.returns-in-Err-clause-open
returns-in-Err-clause-open c =
    let refused : c.in-Err.status ≢ ok = search rules in
    λ e. absurd (refused e)
