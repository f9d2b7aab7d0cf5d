use Rattle.std.proofs.Common.{arith}
use Rattle.frame_zones.proofs.laws.bounds_in_zones_are_these.Goals as goal

pub returns-clause-for_place : goal.returns-clause-for_place
returns-clause-for_place c zs x z local a d e there more keeps = omega (arith, more, keeps z local a there)
