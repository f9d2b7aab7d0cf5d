use Rattle.frame_model.specs.Key.{sealed_key}
use Rattle.core_frames.proofs.CoreLemmas.{opened_with}
use Rattle.core_frames.proofs.shared.allocator.Allocator.open_starting.Goals as goal

pub returns-clause-opened : goal.returns-clause-opened
returns-clause-opened c =
    opened_with (sealed_key c.args.geometry c.args.ranges.now) (record { table = c.in_ok-table.table })
    c.in_ok-cores.cores.items c.in_ok-table.seats.items c.in_ok-table.ensures.opened
    c.in_ok-cores.ensures.seats c.in_ok-cores.ensures.numbers
