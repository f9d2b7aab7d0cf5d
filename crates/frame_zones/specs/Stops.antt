-- What a stop of zones gives.
use Rattle.std.specs.Prelude.{◌≡◌, ℕ, ◌<◌, ◌≤◌, List, [], length, slice_index_or, vec_capacity}
use Rattle.std.specs.declared.alloc.Global.{Global}
use Rattle.std.specs.declared.vec.Vec.{Vec}
use Rattle.frame_table.specs.Stopping.{IsRoomFor, IsImageAtStop}
use Rattle.core_frames.specs.declared.shared.allocator.Allocator.{Allocator}
use Rattle.core_frames.specs.declared.shared.allocator.Core.{Core}
use Rattle.core_frames.specs.Cores.{memory_of, seat_of}
use Rattle.frame_zones.specs.Zones.{zone_count, zone_at, core_at, first_frame_of}
use Rattle.frame_zones.specs.declared.image.ZoneImage.{ZoneImage}
use Rattle.frame_zones.specs.declared.stops.StopRoom.{StopRoom}
use Rattle.frame_zones.specs.declared.zones.Zones.{Zones}
use Rattle.frame_zones.specs.declared.zones.ZoneCore.{ZoneCore}

-- for each of these allocators there is an empty list with room for its words
pub record HaveRoomIn (zones : List Allocator) (lists : List (Vec ℕ Global)) : Type 0 where
  pub count : length lists ≡ length zones
  pub each : (z : ℕ) (a : Allocator) (list : Vec ℕ Global) → z < length zones
      → IsRoomFor (memory_of (slice_index_or zones z a)) (slice_index_or lists z list)

-- there is room for the words of each zone, and for all images
pub record IsRoomForAll (zs : Zones) (room : StopRoom) : Type 0 where
  pub words : HaveRoomIn zs.zones.items room.words.items
  pub none : room.images.items ≡ []
  pub images : zone_count zs ≤ vec_capacity room.images

-- the image has the words of this zone as they were at the stop of the core that it had there
pub record IsZoneStopped (zs : Zones) (c : ZoneCore) (z : ℕ) (i : ZoneImage) : Type 0 where
  pub first_frame : i.first ≡ first_frame_of zs z
  pub stopped : (a : Allocator) (x : Core)
      → IsImageAtStop (memory_of (zone_at zs z a)) (seat_of (core_at c z x)) i.image

-- these are the images of all zones, in order
pub record AreStopped (zs : Zones) (c : ZoneCore) (images : List ZoneImage) : Type 0 where
  pub count : length images ≡ zone_count zs
  pub each : (z : ℕ) (d : ZoneImage) → z < zone_count zs
      → IsZoneStopped zs c z (slice_index_or images z d)
