use Rattle.frame_zones.specs.Zones.{AreCoresOf}
use Rattle.zone_tests.proofs.tests.threads.work.Given as goal

abbrev pub invariant-loop-i : goal.invariant-loop-i
invariant-loop-i l = AreCoresOf l.zones l.core
