-- What a join of blocks of zones leaves.
use Rattle.std.specs.Prelude.{◌≡◌, Result, IfOk, IfErr}
use Rattle.frame_table.specs.Seats.{block_in}
use Rattle.core_frames.specs.declared.shared.allocator.Allocator.{Allocator}
use Rattle.core_frames.specs.declared.shared.allocator.Core.{Core}
use Rattle.core_frames.specs.Cores.{kept_by}
use Rattle.core_frames.specs.Joins.{AreBuddies}
use Rattle.core_frames.specs.Uses.{HasJoined}
use Rattle.frame_zones.specs.Zones.{zone_at, core_at, IsOutOfItsZone}
use Rattle.frame_zones.specs.Uses.{OthersStay}
use Rattle.frame_zones.specs.declared.zones.Zones.{Zones}
use Rattle.frame_zones.specs.declared.zones.ZoneCore.{ZoneCore}
use Rattle.frame_zones.specs.declared.block.ZoneBlock.{ZoneBlock}

-- the two are buddies in one zone
pub record AreBuddiesIn (lower upper : ZoneBlock) : Type 0 where
  pub same_zone : upper.zone ≡ lower.zone
  pub are_buddies : AreBuddies (block_in lower.block) (block_in upper.block)

-- the block of both is one of the same zone
pub record HasJoinedIn (zs : Zones) (lower upper b : ZoneBlock) (c d : ZoneCore) : Type 0 where
  pub is_out : IsOutOfItsZone zs b
  pub zone : b.zone ≡ lower.zone
  pub same_zone : upper.zone ≡ lower.zone
  pub here : (a : Allocator) (x : Core) → HasJoined (zone_at zs lower.zone a) lower.block upper.block b.block
      (core_at c lower.zone x) (core_at d lower.zone x)

-- a join of two blocks: the block of both is out; or they are no buddies of one zone, and were handed back with no
-- move; where takes begin is as before
pub record JoinsIn (zs : Zones) (lower upper : ZoneBlock) (answer : Result ZoneBlock (ZoneBlock × ZoneBlock))
    (c d : ZoneCore) : Type 0 where
  pub kept : (x : Core) → kept_by (core_at d lower.zone x) ≡ kept_by (core_at c lower.zone x)
  pub others : OthersStay zs lower.zone c d
  pub same_stays : d.stays ≡ c.stays
  pub ok : IfOk answer (λ b. HasJoinedIn zs lower upper b c d)
  pub err : IfErr answer (λ same. (same.0 ≡ lower) × (same.1 ≡ upper) × (¬ AreBuddiesIn lower upper)
      × ((x : Core) → core_at d lower.zone x ≡ core_at c lower.zone x))
