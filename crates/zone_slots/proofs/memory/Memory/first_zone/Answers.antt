use Rattle.std.proofs.Common.{arith}
use Rattle.zone_slots.proofs.FirstZones.{first_fits}
use Rattle.zone_slots.proofs.memory.Memory.first_zone.Goals as goal

pub overflow_cast-result : goal.overflow_cast-result
overflow_cast-result c =
    omega (arith, first_fits c.args.self.now.zones c.index.result.now c.args.self.now.numbered c.requires c.index.ensures)
