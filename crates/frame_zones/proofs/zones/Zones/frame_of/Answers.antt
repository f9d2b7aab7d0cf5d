use Rattle.std.proofs.Common.{arith}
use Rattle.frame_zones.proofs.Apart.{fits_frame}
use Rattle.frame_zones.proofs.zones.Zones.frame_of.Goals as goal

pub overflow_add-result : goal.overflow_add-result
overflow_add-result c = omega (arith, fits_frame c.args.self.now c.args.block.now c.requires, c.first_of.ensures, c.frame.ensures)

pub returns-clause-inside : goal.returns-clause-inside
returns-clause-inside c =
    omega (arith, fits_frame c.args.self.now c.args.block.now c.requires, c.first_of.ensures, c.frame.ensures, c.from.ensures)
