use Rattle.frame_zones.proofs.Looked.{Searched}
use Rattle.frame_zones.proofs.zones.Zones.look_for_run.Given as goal

abbrev pub invariant-loop-zone : goal.invariant-loop-zone
invariant-loop-zone l = Searched l.self l.count l.from l.zone l.fn.core l.core
