-- What a closing of zones gives.
use Rattle.std.specs.Prelude.{◌≡◌, ℕ, ◌+◌, ◌<◌, List, length, map, slice_index_or}
use Rattle.std.specs.List.{All}
use Rattle.frame_table.specs.Closing.{IsClosingOf}
use Rattle.frame_table.specs.declared.seats.CoreSeat.{CoreSeat}
use Rattle.core_frames.specs.declared.shared.allocator.Allocator.{Allocator}
use Rattle.core_frames.specs.declared.shared.allocator.Core.{Core}
use Rattle.core_frames.specs.Cores.{memory_of, seat_of}
use Rattle.frame_zones.specs.Zones.{zone_count, zone_at, core_at, first_frame_of, HasCoresIn}
use Rattle.frame_zones.specs.declared.image.ZoneImage.{ZoneImage}
use Rattle.frame_zones.specs.declared.zones.Zones.{Zones}
use Rattle.frame_zones.specs.declared.zones.ZoneCore.{ZoneCore}

-- what the cores step through in this zone, in order
abbrev pub seats_in : ℕ → Core → List ZoneCore → List CoreSeat
seats_in z x cores = map (λ c. seat_of (core_at c z x)) cores

-- the image is that of this zone, closed with the cores that it has there
pub record IsZoneClosed (zs : Zones) (cores : List ZoneCore) (z : ℕ) (i : ZoneImage) : Type 0 where
  pub first_frame : i.first ≡ first_frame_of zs z
  pub closed : (a : Allocator) (x : Core)
      → IsClosingOf (memory_of (zone_at zs z a)) (seats_in z x cores) i.image

-- these are the images of all zones from one on, in order
pub record AreClosedFrom (from : ℕ) (zs : Zones) (cores : List ZoneCore) (images : List ZoneImage)
    : Type 0 where
  pub count : from + length images ≡ zone_count zs
  pub each : (k : ℕ) (d : ZoneImage) → k < length images
      → IsZoneClosed zs cores (from + k) (slice_index_or images k d)

-- where takes begin through the core and, in so many zones, its parts are as before
pub record HasSameParts (zones : ℕ) (c d : ZoneCore) : Type 0 where
  pub home : d.home ≡ c.home
  pub same_stays : d.stays ≡ c.stays
  pub parts : (z : ℕ) (x : Core) → z < zones → core_at d z x ≡ core_at c z x

-- the first ones of the zones are left, at their first frames, and the cores have their parts there
pub record AreLeft (zs : Zones) (cores : List ZoneCore) (rest : Zones) (left : List ZoneCore)
    : Type 0 where
  pub zones : (z : ℕ) (a : Allocator) → z < zone_count rest → zone_at rest z a ≡ zone_at zs z a
  pub firsts : (z : ℕ) → z < zone_count rest → first_frame_of rest z ≡ first_frame_of zs z
  pub as_many : rest.cores ≡ zs.cores
  pub count : length left ≡ length cores
  pub each : (k : ℕ) (c : ZoneCore) → k < length cores
      → HasSameParts (zone_count rest) (slice_index_or cores k c) (slice_index_or left k c)
  pub are_cores : All (HasCoresIn rest.zones.items) left

-- all of them are left
pub record AreAllLeft (zs : Zones) (cores : List ZoneCore) (rest : Zones) (left : List ZoneCore)
    : Type 0 where
  pub all : zone_count rest ≡ zone_count zs
  pub are_left : AreLeft zs cores rest left

-- the last one was closed, and the others are left
pub record HasClosedLast (zs : Zones) (cores : List ZoneCore) (rest : Zones) (left : List ZoneCore)
    (i : ZoneImage) : Type 0 where
  pub one : zone_count rest + 1 ≡ zone_count zs
  pub are_left : AreLeft zs cores rest left
  pub closed : IsZoneClosed zs cores (zone_count rest) i
