use Rattle.frame_zones.specs.FreeCounts.{free_huge_in}
use Rattle.frame_zones.proofs.Counted.{Counted}
use Rattle.frame_zones.proofs.zones.Zones.free_huge.Given as goal

abbrev pub invariant-loop-zone : goal.invariant-loop-zone
invariant-loop-zone l = Counted free_huge_in l.self l.zone l.sum l.fn.core l.core
