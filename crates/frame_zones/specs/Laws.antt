-- Which frames blocks of all zones have.
use Rattle.std.specs.Prelude.{◌≡◌, ℕ, ◌+◌, ◌%◌, ◌^◌, ◌<◌, ◌≤◌, [], Some, None}
use Rattle.frame_model.specs.View.{holder}
use Rattle.frame_table.specs.Rule.{watch}
use Rattle.frame_table.specs.Seats.{block_in}
use Rattle.core_frames.specs.declared.shared.allocator.Allocator.{Allocator}
use Rattle.core_frames.specs.Cores.{memory_of, IsOutOf}
use Rattle.frame_zones.specs.Sizes.{end_from}
use Rattle.frame_zones.specs.Zones.{zone_at, first_frame_of, first_frame_in}
use Rattle.frame_zones.specs.declared.zones.Zones.{Zones}
use Rattle.frame_zones.specs.declared.block.ZoneBlock.{ZoneBlock}

-- the frame, by its number among the frames of all zones, lies in the block
abbrev pub HasFrame : Zones → ZoneBlock → ℕ → Type 0
HasFrame zs b x = (first_frame_in zs b ≤ x) × (x < first_frame_in zs b + 2 ^ (block_in b.block).order)

-- the block's own seat is one of the zone that it names, and owns just this block there
pub record OwnsInZone (zs : Zones) (b : ZoneBlock) : Type 0 where
  pub is_out : (a : Allocator) → IsOutOf (zone_at zs b.zone a) b.block
  pub owns : (a : Allocator) → b.block.seat.me
      ≡ (watch (holder (Some (memory_of (zone_at zs b.zone a))) (block_in b.block)) [] None, [])

-- the block lies within the frames of the zone that it names
pub record LiesInZone (zs : Zones) (b : ZoneBlock) : Type 0 where
  pub from : first_frame_of zs b.zone ≤ first_frame_in zs b
  pub to : (a : Allocator) → first_frame_in zs b + 2 ^ (block_in b.block).order
      ≤ end_from (first_frame_of zs b.zone) (zone_at zs b.zone a)
  pub aligned : first_frame_in zs b % 2 ^ (block_in b.block).order ≡ 0

-- no frame lies in both
abbrev pub AreFramesApart : Zones → ZoneBlock → ZoneBlock → Type 0
AreFramesApart zs b c = (x : ℕ) → ¬ (HasFrame zs b x × HasFrame zs c x)
