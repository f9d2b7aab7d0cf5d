use Rattle.std.proofs.Common.{arith}
use Rattle.zone_slots.proofs.Running.{is_local}
use Rattle.zone_slots.proofs.memory.Memory.run_at.Goals as goal

pub overflow_add-local : goal.overflow_add-local
overflow_add-local c =
    omega (arith, is_local c.args.self.now.zones c.args.frame c.in_ok-zone.zone c.in_ok-zone.local c.loop-i.invariant.begins)
