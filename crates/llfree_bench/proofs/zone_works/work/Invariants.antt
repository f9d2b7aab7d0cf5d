use Rattle.frame_zones.specs.Zones.{AreCoresOf}
use Rattle.llfree_bench.proofs.zone_works.work.Given as goal

abbrev pub invariant-loop-i : goal.invariant-loop-i
invariant-loop-i l = AreCoresOf l.zones l.core
