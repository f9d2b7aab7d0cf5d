-- What clauses see behind a handle.
use Rattle.std.specs.Prelude.{◌≡◌, ℕ, ◌+◌, ◌-◌, ◌^◌, ◌<◌, List, [], ◌∷◌, Option, Some, None}
use Rattle.std.specs.List.{Contains}
use Rattle.std.specs.List.Sorted.{IsPermutation}
use Rattle.frame_model.specs.Block.{block}
use Rattle.frame_model.specs.QuietTake.{TakesBlock, FindsNone}
use Rattle.core_frames.specs.PlainState.{PlainState, memory_by, held_by}
use Rattle.llfree_c.specs.declared.plain.Plain.{Plain}
use Rattle.llfree_c.specs.Openings.{IsMemoryOf}
use Rattle.llfree_c.specs.declared.ranges.FrameRange.{FrameRange}

-- an allocator is behind both handles, and the two are related
abbrev pub Both : (PlainState → PlainState → Type 0) → Option Plain → Option Plain → Type 0
Both relates (Some p) (Some q) = relates p.allocator q.allocator
Both relates (Some p) None = ⊥
Both relates None q = ⊥

-- an allocator is behind the handle, of so many frames and with these ranges held back, and nothing
-- else is held
abbrev pub OpensFresh : ℕ → List FrameRange → Option Plain → Type 0
OpensFresh frames ranges (Some p) =
    IsMemoryOf frames ranges (memory_by p.allocator) × (p.allocator.out ≡ []) × (p.allocator.kept ≡ [])
OpensFresh frames ranges None = ⊥

-- the frames of the memory behind the handle, or 0
abbrev pub plain_frames : Option Plain → ℕ
plain_frames (Some p) = p.allocator.geometry.frames
plain_frames None = 0

-- it is the same memory, and what was kept is as before
pub record KeepsMemory (old new : PlainState) : Type 0 where
  pub geometry : new.geometry ≡ old.geometry
  pub ranges : new.ranges ≡ old.ranges
  pub kept : new.kept ≡ old.kept

-- a free block was taken: it overlaps no block that was held, and is out from then on
pub record BlockTaken (order frame : ℕ) (old new : PlainState) : Type 0 where
  pub quiet : TakesBlock (memory_by old) (held_by old) (held_by new) order (block frame order)
  pub out : IsPermutation (block frame order ∷ old.out) new.out
  pub memory : KeepsMemory old new

-- no block of the order was free, and nothing changed
pub record NoneWasFree (order : ℕ) (old new : PlainState) : Type 0 where
  pub none : FindsNone (memory_by old) (held_by old) (held_by new) order
  pub same : new ≡ old

-- there are no blocks of the order, and nothing changed
pub record HasNoOrder (order : ℕ) (old new : PlainState) : Type 0 where
  pub above : 9 < order
  pub same : new ≡ old

-- exactly this block was given
pub record BlockGiven (order frame : ℕ) (old new : PlainState) : Type 0 where
  pub out : IsPermutation (block frame order ∷ new.out) old.out
  pub memory : KeepsMemory old new

-- exactly this block was split: its halves are out in its place
pub record BlockSplit (order frame : ℕ) (old new : PlainState) : Type 0 where
  pub some : 0 < order
  pub out : IsPermutation (block frame order ∷ new.out)
      (block frame (order - 1) ∷ block (frame + 2 ^ (order - 1)) (order - 1) ∷ old.out)
  pub memory : KeepsMemory old new

-- a block of order 0 has no halves, and nothing changed
pub record HasNoHalves (n : ℕ) (old new : PlainState) : Type 0 where
  pub order : n ≡ 0
  pub same : new ≡ old

-- this block was not out, and nothing changed
pub record WasNotOut (order frame : ℕ) (old new : PlainState) : Type 0 where
  pub not_out : ¬ Contains old.out (block frame order)
  pub same : new ≡ old
