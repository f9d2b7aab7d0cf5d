-- How much is free behind handles, and which block is out.
use Rattle.std.specs.Prelude.{◌≡◌, ℕ, ◌+◌, Option, Some, None}
use Rattle.std.specs.List.{Contains}
use Rattle.frame_model.specs.Block.{block}
use Rattle.frame_model.specs.Key.{frame_count}
use Rattle.core_frames.specs.FreeCounts.{frames_together, clear_children}
use Rattle.core_frames.specs.PlainState.{PlainState, memory_by, held_by}
use Rattle.zone_slots.specs.declared.core_state.CoreState.{CoreState}
use Rattle.llfree_c.specs.SeenCores.{OnCore}
use Rattle.llfree_c.specs.declared.plain.Plain.{Plain}

-- the core behind the handle counts so many; where none is, there are 0, and none is afterwards
abbrev pub CountsBehind : (ℕ → CoreState → CoreState → Type 0) → ℕ → Option CoreState → Option CoreState
    → Type 0
CountsBehind Counts n (Some s) later = OnCore (Counts n s) later
CountsBehind Counts n None later = (n ≡ 0) × (later ≡ None)

-- so many frames are not held: with those that are, and all that nobody is ever given, they are all
abbrev pub AreFreeFrames : ℕ → PlainState → Type 0
AreFreeFrames n state = n + frames_together (held_by state) ≡ frame_count (memory_by state)

-- so many children have no frame that is held
abbrev pub AreFreeChildren : ℕ → PlainState → Type 0
AreFreeChildren n state = n ≡ clear_children (memory_by state) (held_by state)

-- so many are counted of the memory behind the handle; where none is, there are 0
abbrev pub CountsIn : (ℕ → PlainState → Type 0) → ℕ → Option Plain → Type 0
CountsIn Counts n (Some p) = Counts n p.allocator
CountsIn Counts n None = n ≡ 0

-- a memory is behind the handle, and exactly this block is out
abbrev pub IsOutBehind : (order frame : ℕ) → Option Plain → Type 0
IsOutBehind order frame (Some p) = Contains p.allocator.out (block frame order)
IsOutBehind order frame None = ⊥
