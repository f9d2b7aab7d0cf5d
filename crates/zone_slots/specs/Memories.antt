-- The zones of a memory: the slots of their blocks, and the numbers of their frames.
use Rattle.std.specs.Prelude.{◌≡◌, ℕ, ◌+◌, ◌<◌, ◌≤◌, List, length, slice_index_or}
use Rattle.core_frames.specs.declared.shared.allocator.Allocator.{Allocator}
use Rattle.core_frames.specs.Cores.{IsOutOf}
use Rattle.frame_model.specs.Block.{block}
use Rattle.frame_model.specs.declared.block.FrameBlock.{FrameBlock}
use Rattle.frame_table.specs.declared.block.Block.{Block}
use Rattle.frame_slots.specs.SlotLists.{IsListOf}
use Rattle.frame_slots.specs.declared.slots.SlotList.{SlotList}
use Rattle.frame_zones.specs.Sizes.{end_from}
use Rattle.frame_zones.specs.Zones.{zone_count, zone_at, first_frame_of}
use Rattle.frame_zones.specs.declared.block.GivenBlock.{GivenBlock}
use Rattle.frame_zones.specs.declared.zones.Zones.{Zones}
use Rattle.zone_slots.specs.Layouts.{most_numbers}
use Rattle.zone_slots.specs.declared.first_zone.FirstZone.{FirstZone}
use Rattle.zone_slots.specs.declared.zone_receipt.ZoneReceipt.{ZoneReceipt}

-- there is a list of slots for each zone, of that zone's own blocks
pub record AreSlotted (zs : Zones) (lists : List SlotList) : Type 0 where
  pub count : length lists ≡ zone_count zs
  pub each : (z : ℕ) (a : Allocator) (s : SlotList) → z < zone_count zs
      → IsListOf (zone_at zs z a) (slice_index_or lists z s)

-- each zone ends where frames have numbers
abbrev pub HaveNumbers : Zones → Type 0
HaveNumbers zs = (z : ℕ) (a : Allocator) → z < zone_count zs
    → end_from (first_frame_of zs z) (zone_at zs z a) ≤ most_numbers

-- the first zone begins at this frame, and has so many frames
pub record IsFirstOf (zs : Zones) (f : FirstZone) : Type 0 where
  pub first : f.first ≡ first_frame_of zs 0
  pub frames : f.frames ≡ slice_index_or zs.frames.items 0 0

-- the number among those of all zones of the first frame of a block that was laid down
abbrev pub number_for : Zones → ZoneReceipt → ℕ
number_for zs r = first_frame_of zs r.zone + r.receipt.frame

-- the block that a receipt says was laid down, by its number among the frames of all zones
abbrev pub block_laid : Zones → ZoneReceipt → FrameBlock
block_laid zs r = block (number_for zs r) r.receipt.order

-- the block that was given, by its number among the frames of all zones
abbrev pub block_given : Zones → GivenBlock → FrameBlock
block_given zs g = block (first_frame_of zs g.zone + g.frame) g.order

-- the block was handed out in the zone
abbrev pub IsOutOfZone : Zones → ℕ → Block → Type 0
IsOutOfZone zs z b = (a : Allocator) → IsOutOf (zone_at zs z a) b

-- the frame of this number is of some zone, and what is said of that zone and of the frame's place
-- there is so
pub record IsInZone (zs : Zones) (frame : ℕ) (Holds : (zone local : ℕ) → Type 0) : Type 0 where
  pub zone : ℕ
  pub local : ℕ
  pub within : zone < zone_count zs
  pub number : frame ≡ first_frame_of zs zone + local
  pub holds : Holds zone local
