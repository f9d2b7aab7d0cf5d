use Rattle.std.proofs.Common.{arith}
use Rattle.std.proofs.Math.Pow.{pow_mono}
use Rattle.frame_words.proofs.sizes.frames_of.Goals as goal

pub returns-clause-limit : goal.returns-clause-limit
returns-clause-limit c = omega (arith, pow_mono {i = c.args.order} {j = 9} c.requires)
