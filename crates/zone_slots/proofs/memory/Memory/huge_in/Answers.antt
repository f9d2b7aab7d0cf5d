use Rattle.std.proofs.Common.{arith}
use Rattle.zone_slots.proofs.Few.{few_among}
use Rattle.zone_slots.proofs.memory.Memory.huge_in.Goals as goal

pub overflow_cast-result : goal.overflow_cast-result
overflow_cast-result c = omega (arith, few_among c.args.self.now.zones, c.free_huge.ensures.few)
