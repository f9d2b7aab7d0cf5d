-- Which zone has a frame of the memory.
use Rattle.std.specs.Prelude.{◌≡◌, ℕ, ◌+◌, ◌<◌, ◌≤◌}
use Rattle.core_frames.specs.declared.shared.allocator.Allocator.{Allocator}
use Rattle.core_frames.specs.Cores.{memory_of}
use Rattle.frame_zones.specs.Zones.{zone_count, zone_at, first_frame_of}
use Rattle.frame_zones.specs.declared.zones.Zones.{Zones}

-- the frame, by its number among the frames of all zones, is this one of the zone's own
pub record IsFrameIn (zs : Zones) (x z local : ℕ) : Type 0 where
  pub zone : z < zone_count zs
  pub sum : first_frame_of zs z + local ≡ x
  pub inside : (a : Allocator) → local < (memory_of (zone_at zs z a)).frames

-- no zone has the frame
abbrev pub IsInNoZone : Zones → ℕ → Type 0
IsInNoZone zs x = (z local : ℕ) → ¬ IsFrameIn zs x z local

-- this one does not have it
abbrev pub IsNotIn : Zones → ℕ → ℕ → Type 0
IsNotIn zs x z = (local : ℕ) → ¬ IsFrameIn zs x z local

-- of the zones that begin at the frame or before it this is the last
pub record IsLastFrom (zs : Zones) (x z : ℕ) : Type 0 where
  pub zone : z < zone_count zs
  pub from : first_frame_of zs z ≤ x
  pub last : (k : ℕ) → z < k → k < zone_count zs → x < first_frame_of zs k

-- each zone begins behind the frame
abbrev pub BeginBehind : Zones → ℕ → Type 0
BeginBehind zs x = (k : ℕ) → k < zone_count zs → x < first_frame_of zs k
