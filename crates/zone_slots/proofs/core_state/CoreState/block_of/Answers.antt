use Rattle.std.proofs.Common.{sym, subst}
use Rattle.zone_slots.specs.Calls.{zones_of}
use Rattle.zone_slots.specs.Rights.{IsRightFrom}
use Rattle.zone_slots.specs.declared.memory.Memory.{Memory}
use Rattle.zone_slots.proofs.Rights.{right_from}
use Rattle.zone_slots.proofs.core_state.CoreState.block_of.Goals as goal

pub block_at-requires-clause-right : goal.block_at-requires-clause-right
block_at-requires-clause-right c =
    subst (λ (m : Memory). IsRightFrom m.zones c.args.frame c.args.order c.args.seat.table_id c.args.seat.me) (sym c.deref.ensures)
    (right_from (zones_of c.args.self.now) c.args.frame c.args.order c.args.seat.table_id c.args.seat.me c.requires)
