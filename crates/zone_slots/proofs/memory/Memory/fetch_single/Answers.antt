use Rattle.std.proofs.Common.{sym}
use Rattle.zone_slots.proofs.Rested.{single_of}
use Rattle.zone_slots.proofs.memory.Memory.fetch_single.Goals as goal

pub returns-clause-single : goal.returns-clause-single
returns-clause-single c =
    single_of c.args.self.now.zones c.in_ok-held.held c.args.frame c.into_seat-seat.result c.in_ok-held.ensures.out
    c.in_ok-held.ensures.order (sym c.in_ok-held.ensures.frame) c.into_seat-seat.ensures
