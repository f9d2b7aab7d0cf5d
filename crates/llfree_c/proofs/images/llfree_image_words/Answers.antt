use Rattle.std.proofs.Common.{arith}
use Rattle.llfree_c.proofs.EvenZones.{even_numbers}
use Rattle.llfree_c.proofs.images.llfree_image_words.Goals as goal

pub returns-clause-zones : goal.returns-clause-zones
returns-clause-zones c = λ zones even _. omega (arith, even_numbers c.args.frames zones even, c.div_ceil.ensures)
