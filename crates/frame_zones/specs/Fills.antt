-- Takes of several single frames in one zone.
use Rattle.std.specs.Prelude.{ℕ, ◌<◌, List}
use Rattle.core_frames.specs.Fills.{HasTakenMore}
use Rattle.core_frames.specs.declared.shared.allocator.Allocator.{Allocator}
use Rattle.core_frames.specs.declared.shared.allocator.Core.{Core}
use Rattle.frame_table.specs.declared.block.Block.{Block}
use Rattle.frame_zones.specs.Stays.{CountsAsTakes}
use Rattle.frame_zones.specs.Uses.{OthersStay}
use Rattle.frame_zones.specs.Zones.{zone_count, zone_at, core_at}
use Rattle.frame_zones.specs.declared.zones.Zones.{Zones}
use Rattle.frame_zones.specs.declared.zones.ZoneCore.{ZoneCore}

-- k single frames of the zone, of up to n, are out and lent there, behind the others; the core of every other zone
-- is as before, and each frame counts as a take
pub record TakesMoreIn (zs : Zones) (z k n : ℕ) (olds news : List Block) (c d : ZoneCore) : Type 0 where
  pub zone : z < zone_count zs
  pub here : (a : Allocator) (x : Core) → HasTakenMore (zone_at zs z a) k n olds news (core_at c z x) (core_at d z x)
  pub others : OthersStay zs z c d
  pub stays : CountsAsTakes zs z k c d
