-- How many moves are made in zones at most, in numbers, and what would be more.
use Rattle.std.specs.Prelude.{◌≡◌, ℕ, ◌+◌, ◌*◌, ◌<◌}
use Rattle.core_frames.specs.declared.shared.allocator.Allocator.{Allocator}
use Rattle.core_frames.specs.declared.shared.allocator.Core.{Core}
use Rattle.core_frames.specs.Cores.{memory_of, moves_by}
use Rattle.frame_model.specs.Key.{tree_count}
use Rattle.frame_zones.specs.Frames.{IsFrameIn}
use Rattle.frame_zones.specs.Places.{MovesForPlace, most_at_place_in}
use Rattle.frame_zones.specs.Uses.{MovesWithin, MovesAtMost, most_moves_in, moves_through}
use Rattle.frame_zones.specs.Zones.{zone_at, core_at}
use Rattle.frame_zones.specs.declared.zones.ZoneCore.{ZoneCore}
use Rattle.frame_zones.specs.declared.zones.Zones.{Zones}

-- a take makes at most 1,974 moves for each tree of a zone, 3 for each core and 684
abbrev pub TakeInZoneInNumbers : Type 0
TakeInZoneInNumbers = (a : Allocator)
    → most_moves_in a ≡ 1974 * tree_count (memory_of a) + 3 * (memory_of a).cores + 684

-- a take of just one block makes at most 3 moves for each core of a zone and 78
abbrev pub PlaceInZoneInNumbers : Type 0
PlaceInZoneInNumbers = (a : Allocator) → most_at_place_in a ≡ 3 * (memory_of a).cores + 78

-- no take that made more in a zone is said to have made that many
abbrev pub TakeMovesTooMuch : Type 0
TakeMovesTooMuch = (a : Allocator) (x y : Core) → moves_by x + most_moves_in a < moves_by y → ¬ MovesWithin a x y

-- no take of just one block that made more in all zones than one makes where the frame is, is said to have made
-- that many
abbrev pub PlaceMovesTooMuch : Type 0
PlaceMovesTooMuch = (zs : Zones) (x z local : ℕ) (a : Allocator) (c d : ZoneCore) → IsFrameIn zs x z local
    → moves_through c + most_at_place_in (zone_at zs z a) < moves_through d → ¬ MovesForPlace zs x c d

-- no give and no split that made more moves in a zone than so many is said to have made at most these
abbrev pub ZoneMovesTooMuch : Type 0
ZoneMovesTooMuch = (n z : ℕ) (c d : ZoneCore) (x : Core)
    → moves_by (core_at c z x) + n < moves_by (core_at d z x) → ¬ MovesAtMost n z c d
