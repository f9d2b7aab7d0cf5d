-- What contracts see of a desk: its list, its core, and that they agree.
use Rattle.std.specs.Prelude.{◌≡◌, ℕ, List, slice_index_or}
use Rattle.std.specs.List.{sum_by}
use Rattle.frame_model.specs.Holding.{IsHolding}
use Rattle.frame_model.specs.declared.block.FrameBlock.{FrameBlock}
use Rattle.held_blocks.specs.Desk.{blocks_of}
use Rattle.held_blocks.specs.declared.labelled_block.LabelledBlock.{LabelledBlock}
use Rattle.core_frames.specs.Cores.{memory_of, number_of, kept_by, IsCoreOf}
use Rattle.core_frames.specs.declared.shared.allocator.Allocator.{Allocator}
use Rattle.core_frames.specs.declared.shared.allocator.Core.{Core}
use Rattle.core_frames.specs.declared.shared.desk.Desk.{Desk}

-- the desk's list, oldest first
abbrev pub list_of : Desk → List LabelledBlock
list_of d = d.list.entries

-- the desk's core
abbrev pub core_of : Desk → Core
core_of d = d.core

-- the entry at the place has this label and this block
abbrev pub IsEntryAt : List LabelledBlock → ℕ → List ℕ → FrameBlock → Type 0
IsEntryAt list place label b =
    let entry : LabelledBlock = record { label = label; block = b } in
    slice_index_or list place entry ≡ entry

-- the core keeps exactly these blocks, in any order
abbrev pub KeepsJust : Core → List FrameBlock → Type 0
KeepsJust c blocks = (f : FrameBlock → ℕ) → sum_by f blocks ≡ sum_by f (kept_by c)

-- the desk's core belongs to the allocator, and keeps exactly the list's blocks, which are apart
pub record IsDeskOf (a : Allocator) (d : Desk) : Type 0 where
  pub is_core : IsCoreOf a (core_of d)
  pub keeps : KeepsJust (core_of d) (blocks_of (list_of d))
  pub apart : IsHolding (memory_of a) (blocks_of (list_of d))

-- it still does, as the same one of the allocator's cores
pub record StaysDeskOf (a : Allocator) (d e : Desk) : Type 0 where
  pub is_desk : IsDeskOf a e
  pub same_number : number_of (core_of e) ≡ number_of (core_of d)

-- the desk is left as it was: no step was made, and no block came or left
pub record IsLeftAlone (d e : Desk) : Type 0 where
  pub same_core : core_of e ≡ core_of d
  pub same_list : list_of e ≡ list_of d
