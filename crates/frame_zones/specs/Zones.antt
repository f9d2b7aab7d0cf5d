-- What contracts see of the zones of a memory, of a core of all of them, and of a block of one.
use Rattle.std.specs.Prelude.{◌≡◌, ℕ, ◌+◌, ◌<◌, List, length, slice_index_or}
use Rattle.frame_table.specs.Seats.{block_in}
use Rattle.core_frames.specs.declared.shared.allocator.Allocator.{Allocator}
use Rattle.core_frames.specs.declared.shared.allocator.Core.{Core}
use Rattle.core_frames.specs.Cores.{number_of, IsCoreOf, IsOutOf}
use Rattle.frame_zones.specs.declared.zones.Zones.{Zones}
use Rattle.frame_zones.specs.declared.zones.ZoneCore.{ZoneCore}
use Rattle.frame_zones.specs.declared.block.ZoneBlock.{ZoneBlock}

-- how many zones there are
abbrev pub zone_count : Zones → ℕ
zone_count zs = length zs.zones.items

-- a zone; past the last one, the other allocator
abbrev pub zone_at : Zones → ℕ → Allocator → Allocator
zone_at zs z other = slice_index_or zs.zones.items z other

-- the core of a zone; past the last one, the other core
abbrev pub core_at : ZoneCore → ℕ → Core → Core
core_at c z other = slice_index_or c.cores.items z other

-- the first frame of a zone
abbrev pub first_frame_of : Zones → ℕ → ℕ
first_frame_of zs z = slice_index_or zs.firsts.items z 0

-- the number of the block's first frame among the frames of all zones
abbrev pub first_frame_in : Zones → ZoneBlock → ℕ
first_frame_in zs b = first_frame_of zs b.zone + (block_in b.block).frame

-- it holds between each zone, its core, and its core later on
abbrev pub InEach : Zones → (Allocator → Core → Core → Type 0) → ZoneCore → ZoneCore → Type 0
InEach zs Holds c d = (z : ℕ) (a : Allocator) (x : Core) → z < zone_count zs
    → Holds (zone_at zs z a) (core_at c z x) (core_at d z x)

-- there is a core for each of these allocators, which belongs to it
pub record HasCoresIn (zones : List Allocator) (c : ZoneCore) : Type 0 where
  pub count : length c.cores.items ≡ length zones
  pub each : (z : ℕ) (a : Allocator) (x : Core) → z < length zones
      → IsCoreOf (slice_index_or zones z a) (slice_index_or c.cores.items z x)

-- there is one for each zone, and takes begin in one of the zones
pub record AreCoresOf (zs : Zones) (c : ZoneCore) : Type 0 where
  pub parts : HasCoresIn zs.zones.items c
  pub home : c.home < zone_count zs

-- there still is, each as the same one of its zone's cores
pub record StayCoresOf (zs : Zones) (c d : ZoneCore) : Type 0 where
  pub are_cores : AreCoresOf zs d
  pub same_home : d.home ≡ c.home
  pub same_numbers : InEach zs (λ _ x y. number_of y ≡ number_of x) c d

-- the block was handed out by the zone that it names
pub record IsOutOfItsZone (zs : Zones) (b : ZoneBlock) : Type 0 where
  pub zone : b.zone < zone_count zs
  pub is_out : (a : Allocator) → IsOutOf (zone_at zs b.zone a) b.block
