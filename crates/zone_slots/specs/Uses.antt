-- What takes, gives and splits of blocks of zones leave.
use Rattle.std.specs.Prelude.{◌≡◌, ◌⊎◌, ℕ, pos, ◌+◌, ◌-◌, ◌%◌, ◌^◌, ◌+ℤ◌, ◌-ℤ◌, ◌<◌, ◌≤◌}
use Rattle.frame_words.specs.declared.fault.TakeFault.{TakeFault}
use Rattle.frame_words.specs.declared.fault.TakeFault.TheVariants.{BadOrder, NoBlock, Contended}
use Rattle.frame_model.specs.Block.{block, IsBlock}
use Rattle.frame_core.specs.Mover.{LiesInside}
use Rattle.low_frames.specs.Outcomes.{HasNoBootFrame}
use Rattle.core_frames.specs.declared.shared.allocator.Allocator.{Allocator}
use Rattle.core_frames.specs.declared.shared.allocator.Core.{Core}
use Rattle.core_frames.specs.Bounds.{most_in_give, most_in_split}
use Rattle.core_frames.specs.Cores.{memory_of, kept_by, lent_by}
use Rattle.core_frames.specs.Uses.{HasMovedForEach}
use Rattle.frame_slots.specs.Slots.{FindsNothing}
use Rattle.frame_zones.specs.Uses.{OthersStay, KeepsAll, LendsSame, LosesIn, AreRefusedFor, moves_through, most_moves_among}
use Rattle.frame_zones.specs.Zones.{zone_count, zone_at, core_at, InEach}
use Rattle.frame_zones.specs.declared.zones.Zones.{Zones}
use Rattle.frame_zones.specs.declared.zones.ZoneCore.{ZoneCore}
use Rattle.frame_zones.specs.declared.block.ZoneBlock.{ZoneBlock}
use Rattle.zone_slots.specs.Memories.{IsInZone}
use Rattle.zone_slots.specs.declared.zone_receipt.ZoneReceipt.{ZoneReceipt}

-- there is such a block in the allocator's memory
abbrev pub HasBlock : ℕ → ℕ → Allocator → Type 0
HasBlock order frame a = IsBlock (memory_of a) (block frame order)

-- the allocator's memory has both halves of the block
pub record HasHalves (order frame : ℕ) (a : Allocator) : Type 0 where
  pub some : 0 < order
  pub lower : HasBlock (order - 1) frame a
  pub upper : HasBlock (order - 1) (frame + 2 ^ (order - 1)) a

-- there is such a block in the allocator's memory, none of whose frames its opening held back or is
-- past the end, and the core lends one block more
pub record TakesAt (a : Allocator) (order frame : ℕ) (c d : Core) : Type 0 where
  pub is_block : HasBlock order frame a
  pub no_boot_frame : HasNoBootFrame (memory_of a) (block frame order)
  pub inside : LiesInside (memory_of a) (block frame order)
  pub lent : lent_by d ≡ lent_by c +ℤ pos 1

-- there is such a block in the allocator's memory, and the core lends one block less; what it keeps is as before
pub record GivesAt (a : Allocator) (order frame : ℕ) (c d : Core) : Type 0 where
  pub block : HasBlock order frame a
  pub lent : lent_by d ≡ lent_by c -ℤ pos 1
  pub kept : kept_by d ≡ kept_by c

-- the allocator's memory has both halves of the block, and the core lends one block more; what it keeps is as
-- before
pub record SplitsAt (a : Allocator) (order frame : ℕ) (c d : Core) : Type 0 where
  pub halves : HasHalves order frame a
  pub lent : lent_by d ≡ lent_by c +ℤ pos 1
  pub kept : kept_by d ≡ kept_by c

-- every other zone lends as many blocks as before
abbrev pub OthersLendAsMany : Zones → ℕ → ZoneCore → ZoneCore → Type 0
OthersLendAsMany zs z c d = (k : ℕ) (x : Core) → k < zone_count zs → ¬ (k ≡ z)
    → lent_by (core_at d k x) ≡ lent_by (core_at c k x)

-- in all zones at most as many moves were made as one take makes
abbrev pub MovesForTake : Zones → ZoneCore → ZoneCore → Type 0
MovesForTake zs c d = moves_through d ≤ moves_through c + most_moves_among zs

-- a block of the order was taken in the zone, from this frame of it on, by the moves of one take, and every other zone
-- lends as many as before; what the core keeps in each is as before
pub record TakesInZone (zs : Zones) (order : ℕ) (c d : ZoneCore) (z local : ℕ) : Type 0 where
  pub here : (a : Allocator) (x : Core)
      → TakesAt (zone_at zs z a) order local (core_at c z x) (core_at d z x)
  pub others : OthersLendAsMany zs z c d
  pub kept : InEach zs KeepsAll c d
  pub moves : MovesForTake zs c d

-- the receipt is of this block
pub record IsReceiptOf (b : ZoneBlock) (r : ZoneReceipt) : Type 0 where
  pub zone : r.zone ≡ b.zone
  pub frame : r.receipt.frame ≡ b.block.frame
  pub order : r.receipt.order ≡ b.block.order

-- a block of the order was taken, and was laid down for the receipt
pub record HasTakenFor (zs : Zones) (n : ℕ) (c d : ZoneCore) (r : ZoneReceipt) : Type 0 where
  pub zone : r.zone < zone_count zs
  pub order : r.receipt.order ≡ n
  pub taken : TakesInZone zs n c d r.zone r.receipt.frame

-- a block of the order was given in the zone, by the moves of one give, and in every other all is as before
pub record GivesInZone (zs : Zones) (order : ℕ) (c d : ZoneCore) (z local : ℕ) : Type 0 where
  pub here : (a : Allocator) (x : Core)
      → GivesAt (zone_at zs z a) order local (core_at c z x) (core_at d z x)
  pub others : OthersStay zs z c d
  pub moves : moves_through d ≤ moves_through c + most_in_give

-- a block of the order was split in the zone, by the moves of one split, and in every other all is as before
pub record SplitsInZone (zs : Zones) (order : ℕ) (c d : ZoneCore) (z local : ℕ) : Type 0 where
  pub here : (a : Allocator) (x : Core)
      → SplitsAt (zone_at zs z a) order local (core_at c z x) (core_at d z x)
  pub others : OthersStay zs z c d
  pub moves : moves_through d ≤ moves_through c + most_in_split

-- a block was taken, which begins at the frame of this number
abbrev pub TakesByNumber : Zones → (order frame : ℕ) → ZoneCore → ZoneCore → Type 0
TakesByNumber zs order frame c d = IsInZone zs frame (TakesInZone zs order c d)

-- the block that begins at the frame of this number was given
abbrev pub GivesByNumber : Zones → (order frame : ℕ) → ZoneCore → ZoneCore → Type 0
GivesByNumber zs order frame c d = IsInZone zs frame (GivesInZone zs order c d)

-- the block that begins at the frame of this number was split
abbrev pub SplitsByNumber : Zones → (order frame : ℕ) → ZoneCore → ZoneCore → Type 0
SplitsByNumber zs order frame c d = IsInZone zs frame (SplitsInZone zs order c d)

-- each zone lends as many blocks as before
abbrev pub EachLendsSame : Zones → ZoneCore → ZoneCore → Type 0
EachLendsSame zs c d = InEach zs LendsSame c d

-- in each zone a move was made for each tree, for an order of blocks, no exchange was lost, no block more is
-- lent, and what the core keeps is as before; together they are the moves of one take
pub record FindsNothingAnywhere (zs : Zones) (n : ℕ) (c d : ZoneCore) : Type 0 where
  pub in_each : InEach zs (λ a. FindsNothing a n) c d
  pub moves : MovesForTake zs c d

-- in each zone a move was made for each tree, for an order of blocks, no block more is lent, and what the core
-- keeps is as before; together they are the moves of one take, and in one of them an exchange was lost to other cores
pub record LoseSome (zs : Zones) (n : ℕ) (c d : ZoneCore) : Type 0 where
  pub looked : InEach zs (λ a. HasMovedForEach a n) c d
  pub lost : (z : ℕ) × (z < zone_count zs) × LosesIn c d z
  pub lent : EachLendsSame zs c d
  pub kept : InEach zs KeepsAll c d
  pub moves : MovesForTake zs c d

-- one more, of what is counted in 64 bits
abbrev pub one_more : ℕ → ℕ
one_more count = (count + 1) % 2 ^ 64

-- a block of an order that there is found no slot, and is counted; no zone lends a block more, what the core keeps in
-- each is as before, and the moves are those of one take and one give
pub record FindsNoSlot (zs : Zones) (n : ℕ) (c d : ZoneCore) (count later : ℕ) : Type 0 where
  pub order : n ≤ 9
  pub counted : later ≡ one_more count
  pub lent : EachLendsSame zs c d
  pub kept : InEach zs KeepsAll c d
  pub moves : moves_through d ≤ moves_through c + most_moves_among zs + most_in_give

-- why a take of the order was refused, which needs no slot: as one of all zones is, and no zone lends
-- a block more; what the core keeps in each is as before, and the moves are those of one take
abbrev pub IsRefusedBlock : Zones → ℕ → ZoneCore → ZoneCore → TakeFault → Type 0
IsRefusedBlock zs n c d fault =
    AreRefusedFor zs n c d fault × EachLendsSame zs c d × InEach zs KeepsAll c d × MovesForTake zs c d

-- why a take of the order was refused: there are no blocks of that order; or a move was made for each
-- tree of each zone, and no exchange was lost; or one was; or the block that was taken found no slot,
-- which alone is counted
abbrev pub IsRefusedTake : Zones → ℕ → ZoneCore → ZoneCore → (count later : ℕ) → TakeFault → Type 0
IsRefusedTake zs n c d count later BadOrder = (9 < n) × (d ≡ c) × (later ≡ count)
IsRefusedTake zs n c d count later NoBlock = FindsNothingAnywhere zs n c d × (later ≡ count)
IsRefusedTake zs n c d count later Contended =
    (LoseSome zs n c d × (later ≡ count)) ⊎ FindsNoSlot zs n c d count later
