use Rattle.std.specs.Prelude.{◌≡◌, ◌+◌, ◌++◌}
use Rattle.std.proofs.Common.{vec_len}
use Rattle.std.specs.Arc.{arc_value}
use Rattle.std.specs.List.{All}
use Rattle.frame_zones.specs.Zones.{AreCoresOf}
use Rattle.zone_slots.specs.Openings.{Shares, IsUnusedCore, IsUnusedState, parts_from_last}
use Rattle.zone_slots.proofs.openings.cores_over.Given as goal

abbrev pub invariant-loop-core : goal.invariant-loop-core
invariant-loop-core l = record {
  cores : All (AreCoresOf (arc_value l.shared).zones) l.cores.items;
  states : All (Shares (arc_value l.shared)) l.states.items;
  unused : All IsUnusedCore l.fn.cores.items → All IsUnusedCore l.cores.items × All IsUnusedState l.states.items;
  order : l.cores.items ++ parts_from_last l.states.items ≡ l.fn.cores.items;
  count : vec_len l.states + vec_len l.cores ≡ vec_len l.fn.cores;
}

abbrev pub decreases-loop-core : goal.decreases-loop-core
decreases-loop-core l = vec_len l.cores
