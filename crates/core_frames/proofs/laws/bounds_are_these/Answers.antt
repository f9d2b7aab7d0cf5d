use Rattle.std.proofs.Common.{refl}
use Rattle.core_frames.proofs.LookLemmas.{look_few}
use Rattle.core_frames.proofs.laws.bounds_are_these.Goals as goal

pub returns-clause-look : goal.returns-clause-look
returns-clause-look c = (look_few, refl)
