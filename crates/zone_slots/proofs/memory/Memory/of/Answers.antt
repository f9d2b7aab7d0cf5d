use Rattle.std.proofs.Common.{arith}
use Rattle.zone_slots.proofs.Few.{few_among}
use Rattle.zone_slots.proofs.memory.Memory.of.Goals as goal

pub overflow_cast-frames : goal.overflow_cast-frames
overflow_cast-frames c = omega (arith, few_among c.args.zones, c.frames-frames.ensures)
