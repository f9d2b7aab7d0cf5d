use Rattle.std.proofs.Common.{◌≤◌, vec_len, vec_capacity}
use Rattle.frame_zones.specs.Zones.{zone_count}
use Rattle.frame_zones.proofs.Stopped.{IsStopping}
use Rattle.frame_zones.proofs.zones.Zones.stop.Given as goal

abbrev pub invariant-loop-zone : goal.invariant-loop-zone
invariant-loop-zone l = record {
  stopping : IsStopping l.fn.self l.fn.core l.fn.room.words.items l.zones.items l.firsts.items l.cores.items
      l.words.items l.images.items;
  room : zone_count l.fn.self ≤ vec_capacity l.images;
}

abbrev pub decreases-loop-zone : goal.decreases-loop-zone
decreases-loop-zone l = vec_len l.zones
