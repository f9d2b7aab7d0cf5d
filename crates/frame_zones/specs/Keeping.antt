-- What a core of all zones keeps.
use Rattle.std.specs.Prelude.{◌≡◌, ℕ, Contains}
use Rattle.frame_model.specs.declared.block.FrameBlock.{FrameBlock}
use Rattle.frame_table.specs.Keeping.{HasKept, HasRecalled}
use Rattle.core_frames.specs.declared.shared.allocator.Core.{Core}
use Rattle.core_frames.specs.Cores.{view_in, kept_by}
use Rattle.frame_table.specs.Seats.{block_in}
use Rattle.frame_zones.specs.Zones.{core_at, IsOutOfItsZone}
use Rattle.frame_zones.specs.Uses.{OthersStay}
use Rattle.frame_zones.specs.declared.block.ZoneBlock.{ZoneBlock}
use Rattle.frame_zones.specs.declared.zones.Zones.{Zones}
use Rattle.frame_zones.specs.declared.zones.ZoneCore.{ZoneCore}

-- the core keeps the block in this zone
abbrev pub IsKeptIn : ℕ → FrameBlock → ZoneCore → Type 0
IsKeptIn z b c = (x : Core) → Contains (kept_by (core_at c z x)) b

-- by one move the core keeps the block in this zone; in the others, and where takes begin, all is as before
pub record KeepsInZone (zs : Zones) (z : ℕ) (b : FrameBlock) (c d : ZoneCore) : Type 0 where
  pub here : (x : Core) → HasKept b (view_in (core_at c z x)) (view_in (core_at d z x))
  pub others : OthersStay zs z c d
  pub same_stays : d.stays ≡ c.stays

-- by one move it keeps this block of the zone once less; in the others, and where takes begin, all is as before
pub record RecallsIn (zs : Zones) (z : ℕ) (b : FrameBlock) (c d : ZoneCore) : Type 0 where
  pub here : (x : Core) → HasRecalled b (view_in (core_at c z x)) (view_in (core_at d z x))
  pub others : OthersStay zs z c d
  pub same_stays : d.stays ≡ c.stays

-- it is this block of the zone, and was handed out there
pub record IsThisOut (zs : Zones) (z : ℕ) (b : FrameBlock) (taken : ZoneBlock) : Type 0 where
  pub zone : taken.zone ≡ z
  pub block : block_in taken.block ≡ b
  pub is_out : IsOutOfItsZone zs taken
