-- What takes, gives and splits of blocks leave whose rights the caller keeps.
use Rattle.std.specs.Prelude.{◌≡◌, ℕ}
use Rattle.atomic_table.specs.Seated.{TableId}
use Rattle.atomic_table.specs.Table.{Me}
use Rattle.frame_table.specs.declared.rule.Watch.{Watch}
use Rattle.core_frames.specs.Splits.{AreHalves}
use Rattle.frame_table.specs.Seats.{block_in}
use Rattle.frame_zones.specs.Zones.{first_frame_in, IsOutOfItsZone}
use Rattle.frame_zones.specs.declared.block.ZoneBlock.{ZoneBlock}
use Rattle.frame_zones.specs.declared.zones.Zones.{Zones}
use Rattle.frame_zones.specs.declared.zones.ZoneCore.{ZoneCore}
use Rattle.zone_slots.specs.Calls.{zones_of}
use Rattle.zone_slots.specs.Rights.{IsRightIn}
use Rattle.zone_slots.specs.Uses.{TakesInZone, SplitsInZone}
use Rattle.zone_slots.specs.declared.core_state.CoreState.{CoreState}

-- the block is one of the order, is out in the zone that it names, and was taken there
pub record HasTakenBlock (zs : Zones) (n : ℕ) (c d : ZoneCore) (b : ZoneBlock) : Type 0 where
  pub is_out : IsOutOfItsZone zs b
  pub order : b.block.order ≡ n
  pub taken : TakesInZone zs n c d b.zone b.block.frame

-- the block was split in its zone, and its halves are out there
pub record HasSplitBlock (zs : Zones) (b first second : ZoneBlock) (c d : ZoneCore) : Type 0 where
  pub first_out : IsOutOfItsZone zs first
  pub second_out : IsOutOfItsZone zs second
  pub zones : (first.zone ≡ b.zone) × (second.zone ≡ b.zone)
  pub are_halves : AreHalves (block_in b.block) (block_in first.block) (block_in second.block)
  pub split : SplitsInZone zs b.block.order c d b.zone b.block.frame

-- the block was handed out in the zone that it names, of those of the core
abbrev pub IsOutFor : CoreState → ZoneBlock → Type 0
IsOutFor s b = IsOutOfItsZone (zones_of s) b

-- the number of the block's first frame among those of all zones
abbrev pub frame_for : CoreState → ZoneBlock → ℕ
frame_for s b = first_frame_in (zones_of s) b

-- the same in the zones of the core
abbrev pub IsRightThrough : CoreState → (frame order : ℕ) → TableId → Me (Unit {0}) Watch → Type 0
IsRightThrough s frame order id me = IsRightIn (zones_of s) frame order id me

-- a block of the order was taken through the core
abbrev pub TakesBlockFor : ℕ → CoreState → CoreState → ZoneBlock → Type 0
TakesBlockFor order s t b = HasTakenBlock (zones_of s) order s.core t.core b

-- the block was split into these halves through the core
abbrev pub SplitsBlockFor : (b first second : ZoneBlock) → CoreState → CoreState → Type 0
SplitsBlockFor b first second s t = HasSplitBlock (zones_of s) b first second s.core t.core
