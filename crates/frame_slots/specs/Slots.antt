-- What clauses say of slots, and of the cores that blocks at them are taken by.
use Rattle.std.specs.Prelude.{◌≡◌, ℕ, pos, ◌+ℤ◌, ◌-ℤ◌, Some, None, []}
use Rattle.frame_model.specs.declared.block.FrameBlock.{FrameBlock}
use Rattle.frame_model.specs.Block.{block, IsBlock}
use Rattle.frame_table.specs.Rule.{watch}
use Rattle.frame_model.specs.View.{holder}
use Rattle.frame_table.specs.Seats.{block_in, id_of}
use Rattle.frame_table.specs.declared.block.Block.{Block}
use Rattle.core_frames.specs.Cores.{memory_of, IsCoreOf, IsOutOf, lent_by, kept_by, losses_by}
use Rattle.core_frames.specs.Uses.{HasMovedForEach}
use Rattle.core_frames.specs.declared.shared.allocator.Allocator.{Allocator}
use Rattle.core_frames.specs.declared.shared.allocator.Core.{Core}
use Rattle.frame_slots.specs.declared.receipt.Receipt.{Receipt}
use Rattle.frame_slots.specs.declared.slot.Slot.{Slot}

-- the slot is one for this block of the allocator's memory: what rests there is the right to it
pub record IsSlotFor (a : Allocator) (frame order : ℕ) (p : Slot) : Type 0 where
  pub table : p.perch.table_id ≡ id_of a.table
  pub about : p.perch.view.view.about ≡ Some (memory_of a)
  pub rests : p.perch.view ≡ watch (holder p.perch.view.view.about (block frame order)) [] None
  pub is_block : IsBlock (memory_of a) (block frame order)

-- the block that a receipt says was laid down
abbrev pub laid_down : Receipt → FrameBlock
laid_down r = block r.frame r.order

-- a move was made for each tree of the memory, for an order of blocks, no exchange was lost, no block more is
-- lent, and what the core keeps is as before
pub record FindsNothing (a : Allocator) (order : ℕ) (c d : Core) : Type 0 where
  pub looked : HasMovedForEach a order c d
  pub unlost : losses_by d ≡ losses_by c
  pub lent : lent_by d ≡ lent_by c
  pub kept : kept_by d ≡ kept_by c

-- the core lends no block and keeps none
pub record IsUnused (c : Core) : Type 0 where
  pub lent : lent_by c ≡ pos 0
  pub kept : kept_by c ≡ []

-- the core lends and keeps what it did before
pub record IsUsedAsBefore (c d : Core) : Type 0 where
  pub lent : lent_by d ≡ lent_by c
  pub kept : kept_by d ≡ kept_by c

-- the block is out again as it was, and the core lends and keeps what it did before
pub record IsWholeAgain (a : Allocator) (b : Block) (c d : Core) (whole : Block) : Type 0 where
  pub out : IsOutOf a whole
  pub same : block_in whole ≡ block_in b
  pub used : IsUsedAsBefore c d

-- the core is the allocator's, lends no block and keeps none
pub record IsUnusedCoreOf (a : Allocator) (c : Core) : Type 0 where
  pub is_core : IsCoreOf a c
  pub unused : IsUnused c

-- the core lends so many blocks more, and keeps what it did before
pub record HasTakenSoMany (n : ℕ) (c d : Core) : Type 0 where
  pub lent : lent_by d ≡ lent_by c +ℤ pos n
  pub kept : kept_by d ≡ kept_by c

-- the core lends so many blocks less, and keeps what it did before
pub record HasGivenSoMany (n : ℕ) (c d : Core) : Type 0 where
  pub lent : lent_by d ≡ lent_by c -ℤ pos n
  pub kept : kept_by d ≡ kept_by c

-- the core lends one block more for each that there are more than before, and keeps what it did
pub record LendsForEach (count later : ℕ) (c d : Core) : Type 0 where
  pub lent : lent_by d -ℤ pos later ≡ lent_by c -ℤ pos count
  pub kept : kept_by d ≡ kept_by c
