-- What a look at the slots of blocks tells.
use Rattle.std.specs.Prelude.{◌≡◌, ℕ, ◌+◌}
use Rattle.core_frames.specs.declared.shared.allocator.Allocator.{Allocator}
use Rattle.frame_model.specs.Block.{block}
use Rattle.frame_model.specs.declared.block.FrameBlock.{FrameBlock}
use Rattle.frame_zones.specs.Zones.{zone_at, first_frame_of}
use Rattle.frame_zones.specs.declared.zones.Zones.{Zones}
use Rattle.zone_slots.specs.Memories.{IsInZone}
use Rattle.zone_slots.specs.Uses.{HasBlock}
use Rattle.zone_slots.specs.declared.looks.Sight.{Sight}

-- the block that was seen at its slot, by its number among the frames of all zones
abbrev pub block_seen : Zones → Sight → FrameBlock
block_seen zs s = block (first_frame_of zs s.zone + s.frame) s.order

-- it was seen at this frame of the zone, and is of the order
pub record IsSightOf (zone frame order : ℕ) (s : Sight) : Type 0 where
  pub same_zone : s.zone ≡ zone
  pub same_frame : s.frame ≡ frame
  pub same_order : s.order ≡ order

-- the memory has a block of the order that begins at the frame of this number
abbrev pub HasBlockOf : Zones → (order frame : ℕ) → Type 0
HasBlockOf zs order frame = IsInZone zs frame (λ z local. (a : Allocator) → HasBlock order local (zone_at zs z a))
