use Rattle.frame_zones.specs.FreeCounts.{free_frames_in}
use Rattle.frame_zones.proofs.Counted.{Counted}
use Rattle.frame_zones.proofs.zones.Zones.free_frames.Given as goal

abbrev pub invariant-loop-zone : goal.invariant-loop-zone
invariant-loop-zone l = Counted free_frames_in l.self l.zone l.sum l.fn.core l.core
