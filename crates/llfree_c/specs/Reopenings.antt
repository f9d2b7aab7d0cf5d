-- The memories for one thread that an opening at an image is asked for, and why there are none.
use Rattle.std.specs.Prelude.{◌≡◌, ◌⊎◌, ℕ, ◌≤◌, List, [], ◌++◌, Option, Some, None, map}
use Rattle.std.specs.List.{All}
use Rattle.std.specs.List.Sorted.{IsPermutation}
use Rattle.frame_model.specs.declared.block.FrameBlock.{FrameBlock}
use Rattle.frame_model.specs.Block.{block}
use Rattle.core_frames.specs.PlainState.{PlainState, memory_by}
use Rattle.frame_slots.specs.Claims.{Ascend, IsHeldAs, ShareNoFrame}
use Rattle.frame_slots.specs.Numbers.{IsImageOf}
use Rattle.llfree_c.specs.Openings.{AreMemorySizes, HasNoSizes, IsMemoryOf}
use Rattle.llfree_c.specs.Replays.{HoldsAllOf, HoldsOnly}
use Rattle.llfree_c.specs.Status.{bad_image, bad_order, contended, no_memory, not_held}
use Rattle.llfree_c.specs.declared.blocks.ClaimedBlock.{ClaimedBlock}
use Rattle.llfree_c.specs.declared.plain.Plain.{Plain}

-- the block that a claim names
abbrev pub block_of : ClaimedBlock → FrameBlock
block_of b = block b.frame b.order

-- the blocks that claims name
abbrev pub claimed_blocks : List ClaimedBlock → List FrameBlock
claimed_blocks claims = map block_of claims

-- the order is one of a block
abbrev pub NamesAnOrder : ClaimedBlock → Type 0
NamesAnOrder b = b.order ≤ 9

-- an image of so many frames holds each of the blocks in its own form, and no two share a frame
pub record MayBeClaimed (frames : ℕ) (numbers : List ℕ) (claims : List ClaimedBlock) : Type 0 where
  pub held : All (IsHeldAs frames numbers) (claimed_blocks claims)
  pub apart : ShareNoFrame (claimed_blocks claims)

-- an image was left with these numbers of a memory of so many frames, and just these blocks, which ascend and
-- share no frame, are claimed
pub record IsClaimedOf (frames : ℕ) (numbers : List ℕ) (claims : List ClaimedBlock)
    (blocks : List FrameBlock) : Type 0 where
  pub image : IsImageOf frames numbers
  pub held : All (IsHeldAs frames numbers) blocks
  pub same : IsPermutation (claimed_blocks claims) blocks
  pub ascend : Ascend blocks
  pub apart : ShareNoFrame blocks

-- the numbers are those of an image of so many frames, and each claim names an order
pub record AreImageAndClaims (frames : ℕ) (numbers : List ℕ) (claims : List ClaimedBlock) : Type 0 where
  pub image : IsImageOf frames numbers
  pub orders : All NamesAnOrder claims

-- why blocks are not claimed: the numbers are no image's; or they are, but an order is none; or each is one, but a
-- block is not held by itself or shares a frame with another one, or memory was wanting
abbrev pub HasNoClaims : (frames : ℕ) → List ℕ → List ClaimedBlock → (status : ℕ) → Type 0
HasNoClaims frames numbers claims status =
    ((status ≡ bad_image) × ¬ IsImageOf frames numbers)
    ⊎ ((status ≡ bad_order) × IsImageOf frames numbers × ¬ All NamesAnOrder claims)
    ⊎ ((status ≡ not_held) × AreImageAndClaims frames numbers claims × ¬ MayBeClaimed frames numbers claims)
    ⊎ ((status ≡ no_memory) × AreImageAndClaims frames numbers claims)

-- a block was not reached, of an image's that may be claimed
abbrev pub IsUnreached : (frames : ℕ) → List ℕ → List ClaimedBlock → (status : ℕ) → Type 0
IsUnreached frames numbers claims status =
    (status ≡ contended) × IsImageOf frames numbers × MayBeClaimed frames numbers claims

-- why no memory was opened at an image: there is none of these sizes; or there is, but blocks are not claimed, or one
-- that may be claimed was not reached
abbrev pub IsNotReopened : (frames cores : ℕ) → List ℕ → List ClaimedBlock → (status : ℕ) → Type 0
IsNotReopened frames cores numbers claims status =
    HasNoSizes frames cores status
    ⊎ (AreMemorySizes frames cores
    × (HasNoClaims frames numbers claims status ⊎ IsUnreached frames numbers claims status))

-- the memory has so many frames and no ranges, was left with these numbers, and holds just the frames that they
-- hold; of these just the claimed blocks are out, which may be claimed
pub record Reopens (frames : ℕ) (numbers : List ℕ) (claims : List ClaimedBlock) (state : PlainState)
    : Type 0 where
  pub memory : IsMemoryOf frames [] (memory_by state)
  pub image : IsImageOf frames numbers
  pub lawful : MayBeClaimed frames numbers claims
  pub all : HoldsAllOf frames numbers (state.out ++ state.kept)
  pub only : HoldsOnly numbers (state.out ++ state.kept)
  pub held : All (IsHeldAs frames numbers) state.out
  pub out : IsPermutation (claimed_blocks claims) state.out

-- such a memory is behind the handle
abbrev pub ReopensBehind : ℕ → List ℕ → List ClaimedBlock → Option Plain → Type 0
ReopensBehind frames numbers claims (Some p) = Reopens frames numbers claims p.allocator
ReopensBehind frames numbers claims None = ⊥
