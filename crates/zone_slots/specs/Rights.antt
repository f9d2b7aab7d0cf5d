-- Which seat is the right to which block of a zone.
use Rattle.std.specs.Prelude.{◌≡◌, ℕ, ◌-◌, [], Some, None}
use Rattle.atomic_table.specs.Seated.{TableId}
use Rattle.atomic_table.specs.Table.{Me}
use Rattle.core_frames.specs.Cores.{memory_of}
use Rattle.core_frames.specs.declared.shared.allocator.Allocator.{Allocator}
use Rattle.frame_model.specs.Block.{block, IsBlock}
use Rattle.frame_model.specs.View.{holder}
use Rattle.frame_table.specs.Rule.{watch}
use Rattle.frame_table.specs.Seats.{id_of}
use Rattle.frame_table.specs.declared.rule.Watch.{Watch}
use Rattle.frame_zones.specs.Frames.{IsLastFrom, BeginBehind}
use Rattle.frame_zones.specs.Zones.{zone_at, first_frame_of}
use Rattle.frame_zones.specs.declared.zones.Zones.{Zones}
use Rattle.zone_slots.specs.Memories.{IsInZone}

-- a seat with this identity is the right to the block of the order that begins at this frame of the zone
pub record IsRightAt (zs : Zones) (order : ℕ) (id : TableId) (me : Me (Unit {0}) Watch) (z local : ℕ) : Type 0 where
  pub owns : me ≡ (watch (holder me.0.view.about (block local order)) [] None, [])
  pub table : (a : Allocator) → id ≡ id_of (zone_at zs z a).table
  pub about : (a : Allocator) → me.0.view.about ≡ Some (memory_of (zone_at zs z a))
  pub is_block : (a : Allocator) → IsBlock (memory_of (zone_at zs z a)) (block local order)

-- it is the right to the block of the order that begins at the frame of this number
abbrev pub IsRightIn : Zones → (frame order : ℕ) → TableId → Me (Unit {0}) Watch → Type 0
IsRightIn zs frame order id me = IsInZone zs frame (IsRightAt zs order id me)

-- some zone begins at the frame of this number or before it, and of the last one that does it is the right to
-- the block of the order that begins there
pub record IsRightFrom (zs : Zones) (frame order : ℕ) (id : TableId) (me : Me (Unit {0}) Watch) : Type 0 where
  pub some : ¬ BeginBehind zs frame
  pub right : (z : ℕ) → IsLastFrom zs frame z → IsRightAt zs order id me z (frame - first_frame_of zs z)
