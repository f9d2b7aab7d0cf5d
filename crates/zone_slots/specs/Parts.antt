-- What splits of a block into all its blocks of one order leave.
use Rattle.std.specs.Prelude.{◌≡◌, ℕ, pos, ◌+◌, ◌-◌, ◌*◌, ◌^◌, ◌+ℤ◌, ◌<◌, ◌≤◌}
use Rattle.frame_model.specs.Block.{block}
use Rattle.frame_model.specs.declared.block.FrameBlock.{FrameBlock}
use Rattle.core_frames.specs.Bounds.{most_in_split}
use Rattle.core_frames.specs.Cores.{kept_by, lent_by}
use Rattle.core_frames.specs.declared.shared.allocator.Allocator.{Allocator}
use Rattle.core_frames.specs.declared.shared.allocator.Core.{Core}
use Rattle.frame_zones.specs.Uses.{OthersStay, moves_through}
use Rattle.frame_zones.specs.Zones.{zone_at, core_at, first_frame_of}
use Rattle.frame_zones.specs.declared.block.ZoneBlock.{ZoneBlock}
use Rattle.frame_zones.specs.declared.zones.Zones.{Zones}
use Rattle.frame_zones.specs.declared.zones.ZoneCore.{ZoneCore}
use Rattle.zone_slots.specs.Memories.{IsInZone}
use Rattle.zone_slots.specs.Uses.{HasBlock, one_more}
use Rattle.zone_slots.specs.declared.parts.Parts.{Parts}
use Rattle.zone_slots.specs.declared.refusal.Refusal.{Refusal}
use Rattle.zone_slots.specs.declared.refusal.Refusal.TheVariants.{NotHeld, NoParts, NoSlot}
use Rattle.zone_slots.specs.declared.zone_receipt.ZoneReceipt.{ZoneReceipt}

-- how many blocks of an order make up one of another
abbrev pub count_of_parts : (order to : ℕ) → ℕ
count_of_parts order to = 2 ^ (order - to)

-- what was laid down side by side: the first block, by its number among the frames of all zones, and how
-- many they are
abbrev pub parts_laid : Zones → Parts → FrameBlock × ℕ
parts_laid zs p = (block (first_frame_of zs p.zone + p.frame) p.order, p.count)

-- all blocks of an order that make up the block: the first one, and how many they are
abbrev pub parts_of : (frame order to : ℕ) → FrameBlock × ℕ
parts_of frame order to = (block frame to, count_of_parts order to)

-- so many more were laid down
pub record AreMore (n : ℕ) (p q : Parts) : Type 0 where
  pub zone : q.zone ≡ p.zone
  pub frame : q.frame ≡ p.frame
  pub order : q.order ≡ p.order
  pub count : q.count ≡ p.count + n

-- the receipt is of the block of their order right behind them, and they are fewer than a child has frames
pub record IsNextPart (p : Parts) (r : ZoneReceipt) : Type 0 where
  pub zone : r.zone ≡ p.zone
  pub frame : r.receipt.frame ≡ p.frame + p.count * 2 ^ p.order
  pub order : r.receipt.order ≡ p.order
  pub few : p.count < 512

-- the block lies right behind them, and with all blocks of their order that make it up they are no more
-- than a child has frames
pub record BeginsNext (p : Parts) (b : ZoneBlock) : Type 0 where
  pub zone : b.zone ≡ p.zone
  pub frame : b.block.frame ≡ p.frame + p.count * 2 ^ p.order
  pub order : p.order ≤ b.block.order
  pub few : p.count + count_of_parts b.block.order p.order ≤ 512

-- there is such a block in the allocator's memory, of this order or a larger one, and the core lends a
-- block for each of its parts in place of one; what it keeps is as before
pub record SplitsToAt (a : Allocator) (order to frame : ℕ) (c d : Core) : Type 0 where
  pub block : HasBlock order frame a
  pub fits : to ≤ order
  pub lent : lent_by d +ℤ pos 1 ≡ lent_by c +ℤ pos (count_of_parts order to)
  pub kept : kept_by d ≡ kept_by c

-- the block was split in the zone, by a split less than it has parts, and in every other zone all is as
-- before
pub record SplitsToInZone (zs : Zones) (order to : ℕ) (c d : ZoneCore) (z local : ℕ) : Type 0 where
  pub here : (a : Allocator) (x : Core)
      → SplitsToAt (zone_at zs z a) order to local (core_at c z x) (core_at d z x)
  pub others : OthersStay zs z c d
  pub moves : moves_through d ≤ moves_through c + most_in_split * (count_of_parts order to - 1)

-- the block that begins at the frame of this number was split
abbrev pub SplitsToByNumber : Zones → (order to frame : ℕ) → ZoneCore → ZoneCore → Type 0
SplitsToByNumber zs order to frame c d = IsInZone zs frame (SplitsToInZone zs order to c d)

-- the block was split in its zone, and all its parts were laid down behind those before
pub record LaysParts (zs : Zones) (b : ZoneBlock) (p q : Parts) (c d : ZoneCore) : Type 0 where
  pub parts : AreMore (count_of_parts b.block.order p.order) p q
  pub split : SplitsToInZone zs b.block.order p.order c d b.zone b.block.frame

-- so many blocks of the zone are lent in place of one, and in every other zone all is as before
pub record LendsInPlace (zs : Zones) (laid : ℕ) (c d : ZoneCore) (z : ℕ) : Type 0 where
  pub here : (x : Core) → lent_by (core_at d z x) +ℤ pos 1 ≡ lent_by (core_at c z x) +ℤ pos laid
  pub others : OthersStay zs z c d

-- the block was split in its zone, and only its first parts, not all, were laid down behind those before; what is
-- behind them was given
pub record LaysFirstParts (zs : Zones) (b : ZoneBlock) (p q : Parts) (c d : ZoneCore) : Type 0 where
  pub laid : ℕ
  pub fewer : laid < count_of_parts b.block.order p.order
  pub parts : AreMore laid p q
  pub lends : LendsInPlace zs laid c d b.zone

-- the zone has such a block, and in its place fewer blocks are lent than so many; in every other zone all is as before
pub record SplitsToFewer (zs : Zones) (order parts : ℕ) (c d : ZoneCore) (z local : ℕ) : Type 0 where
  pub is_block : (a : Allocator) → HasBlock order local (zone_at zs z a)
  pub laid : ℕ
  pub fewer : laid < parts
  pub lends : LendsInPlace zs laid c d z

-- of so many parts of the block that begins at the frame of this number some were not laid down
abbrev pub LeavesPartsOut : Zones → (order parts frame : ℕ) → ZoneCore → ZoneCore → Type 0
LeavesPartsOut zs order parts frame c d = IsInZone zs frame (SplitsToFewer zs order parts c d)

-- a block has parts of the order
pub record HasPartsOf (order to : ℕ) : Type 0 where
  pub few : order ≤ 9
  pub fits : to ≤ order

-- of an order above 9 there are no blocks, and of an order above its own a block has no parts; else it was
-- not held, or a part found no slot, which alone is counted: then fewer blocks are lent than it has parts
abbrev pub IsRefusedSplitTo : Zones → (order to frame : ℕ) → ZoneCore → ZoneCore → (count later : ℕ) → Refusal → Type 0
IsRefusedSplitTo zs n to frame c d count later NoParts = (¬ HasPartsOf n to) × (later ≡ count)
IsRefusedSplitTo zs n to frame c d count later NotHeld = HasPartsOf n to × (later ≡ count)
IsRefusedSplitTo zs n to frame c d count later NoSlot =
    HasPartsOf n to × (later ≡ one_more count) × LeavesPartsOut zs n (count_of_parts n to) frame c d
