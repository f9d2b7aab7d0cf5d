use Rattle.frame_zones.specs.Zones.{AreCoresOf}
use Rattle.zone_tests.proofs.tests.calls.taken_in_all.Given as goal

abbrev pub invariant-loop-count : goal.invariant-loop-count
invariant-loop-count g l = AreCoresOf l.zones l.core
