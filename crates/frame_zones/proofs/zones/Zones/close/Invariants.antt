use Rattle.std.proofs.Common.{◌≤◌, vec_len, vec_capacity}
use Rattle.frame_zones.specs.Closing.{AreLeft}
use Rattle.frame_zones.specs.Zones.{zone_count}
use Rattle.frame_zones.proofs.Closed.{IsClosing}
use Rattle.frame_zones.proofs.zones.Zones.close.Given as goal

abbrev pub invariant-loop-alloc : goal.invariant-loop-alloc
invariant-loop-alloc l = record {
  are_left : AreLeft l.fn.self l.fn.cores.items l.zones l.cores.items;
  closed : IsClosing l.fn.self l.fn.cores.items (zone_count l.zones) l.images.items;
  enough : l.zones.cores ≤ vec_len l.cores;
  room : zone_count l.fn.self ≤ vec_capacity l.images;
}

abbrev pub decreases-loop-alloc : goal.decreases-loop-alloc
decreases-loop-alloc l = zone_count l.zones
