use Rattle.frame_zones.specs.Zones.{AreCoresOf}
use Rattle.frame_zones.specs.Reopening.{AreSurvivorsOf}
use Rattle.zone_tests.proofs.tests.reopenings.adopts_by_table.Given as goal

abbrev pub invariant-loop-zone : goal.invariant-loop-zone
invariant-loop-zone g l = AreCoresOf l.zones l.core × AreSurvivorsOf l.zones l.survivors.items
