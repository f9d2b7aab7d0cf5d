use Rattle.std.proofs.Common.{arith}
use Rattle.zone_slots.proofs.Rights.{out_fits}
use Rattle.zone_slots.proofs.memory.Memory.frame_at.Goals as goal

pub number_at-requires-clause-fits : goal.number_at-requires-clause-fits
number_at-requires-clause-fits c =
    omega (arith, out_fits c.args.self.now.zones c.args.held.now c.args.self.now.numbered c.requires.out, c.frame.ensures)
