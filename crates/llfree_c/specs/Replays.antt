-- What following an image leaves as it is and what it brings about, and why one was not followed.
use Rattle.std.specs.Prelude.{◌≡◌, ◌⊎◌, ℕ, ◌+◌, ◌/◌, ◌%◌, ◌^◌, ◌<◌, ◌≤◌, List, ◌++◌}
use Rattle.frame_model.specs.declared.block.FrameBlock.{FrameBlock}
use Rattle.frame_model.specs.Holding.{IsHeld}
use Rattle.core_frames.specs.PlainState.{PlainState}
use Rattle.frame_slots.specs.Numbers.{IsHeldBy, IsHugeIn}
use Rattle.llfree_c.specs.Status.{contended, no_memory}

-- it is the same memory
pub record StaysMemory (old new : PlainState) : Type 0 where
  pub geometry : new.geometry ≡ old.geometry
  pub ranges : new.ranges ≡ old.ranges

-- the image holds all frames of the block
abbrev pub HoldsBlock : (numbers : List ℕ) → FrameBlock → Type 0
HoldsBlock numbers b = (x : ℕ) → b.frame ≤ x → x < b.frame + 2 ^ b.order → IsHeldBy numbers x

-- the image holds the block as one: a huge frame by its flag, or a single frame
abbrev pub IsHeldWhole : (numbers : List ℕ) → FrameBlock → Type 0
IsHeldWhole numbers b =
    ((b.order ≡ 9) × (b.frame % 512 ≡ 0) × IsHugeIn numbers (b.frame / 512))
    ⊎ ((b.order ≡ 0) × IsHeldBy numbers b.frame)

-- each frame of so many that the image holds lies in one of the blocks
abbrev pub HoldsAllOf : (frames : ℕ) → (numbers : List ℕ) → List FrameBlock → Type 0
HoldsAllOf frames numbers blocks = (x : ℕ) → x < frames → IsHeldBy numbers x → IsHeld blocks x

-- the image holds each frame that lies in one of the blocks
abbrev pub HoldsOnly : (numbers : List ℕ) → List FrameBlock → Type 0
HoldsOnly numbers blocks = (x : ℕ) → IsHeld blocks x → IsHeldBy numbers x

-- so far an image is followed: what it holds is held, and what was laid down or kept is held there
pub record FollowsImage (numbers : List ℕ) (laid : List FrameBlock) (state : PlainState) : Type 0 where
  pub all : HoldsAllOf state.geometry.frames numbers (state.out ++ state.kept)
  pub only : HoldsOnly numbers (laid ++ state.kept)

-- memory was wanting, or a block was not reached
abbrev pub EndsReplay : ℕ → Type 0
EndsReplay status = (status ≡ no_memory) ⊎ (status ≡ contended)
