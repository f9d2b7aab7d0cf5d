-- What a memory that is brought into the state of an image lays down and keeps.
use Rattle.std.specs.Prelude.{◌≡◌, ◌⊎◌, ℕ, pos, ◌+◌, ◌<◌, ◌≤◌, List, [], ◌∷◌, ◌++◌, length, map}
use Rattle.frame_words.specs.declared.fault.Fault.{Fault}
use Rattle.frame_words.specs.declared.fault.Fault.TheVariants.{Contended, NoMemory}
use Rattle.frame_model.specs.declared.block.FrameBlock.{FrameBlock}
use Rattle.frame_model.specs.Holding.{holders, IsFree, IsHeld}
use Rattle.frame_table.specs.Seats.{block_in}
use Rattle.frame_table.specs.declared.block.Block.{Block}
use Rattle.core_frames.specs.Cores.{lent_by, kept_by}
use Rattle.core_frames.specs.declared.shared.allocator.Allocator.{Allocator}
use Rattle.core_frames.specs.Uses.{HasSplit}
use Rattle.core_frames.specs.declared.shared.allocator.Core.{Core}
use Rattle.frame_slots.specs.Numbers.{IsHeldBy}
use Rattle.frame_slots.specs.Slots.{FindsNothing, laid_down}
use Rattle.frame_slots.specs.declared.receipt.Receipt.{Receipt}

-- the core keeps just those of so many frames that the image holds and none of the blocks has, and
-- lends one block for each of these
pub record KeepsHeldBeside (frames : ℕ) (numbers : List ℕ) (blocks : List FrameBlock) (c : Core) : Type 0 where
  pub all : (x : ℕ) → x < frames → IsHeldBy numbers x → IsFree blocks x → IsHeld (kept_by c) x
  pub only : (x : ℕ) → IsHeld (kept_by c) x → IsHeldBy numbers x × IsFree blocks x
  pub lent : lent_by c ≡ pos (length blocks)

-- why an image was not followed: memory was wanting, or a block that was claimed is not held by itself
-- or some block was not found
abbrev pub IsNoReplay : Fault → Type 0
IsNoReplay fault = (fault ≡ NoMemory) ⊎ (fault ≡ Contended)

-- Its steps.

-- the core lends so many blocks and keeps none
pub record LendsJust (n : ℕ) (c : Core) : Type 0 where
  pub lent : lent_by c ≡ pos n
  pub kept : kept_by c ≡ []

-- in its last take the core found no block of the order, and lost no exchange
abbrev pub HasFoundNone : Allocator → ℕ → Core → Type 0
HasFoundNone a order d = (c : Core) × FindsNothing a order c d

-- each frame below the number lies in just one of the blocks, and no other does
pub record MakeUp (n : ℕ) (blocks : List FrameBlock) : Type 0 where
  pub below : (x : ℕ) → x < n → holders x blocks ≡ 1
  pub above : (x : ℕ) → n ≤ x → holders x blocks ≡ 0

-- the blocks of a list, which are out
abbrev pub waiting_blocks : List Block → List FrameBlock
waiting_blocks waiting = map block_in waiting

-- in how many blocks the frame lies of those that wait, were laid down or are kept
abbrev pub among : ℕ → List Block → List Receipt → Core → ℕ
among x waiting laid c =
    holders x (waiting_blocks waiting) + holders x (map laid_down laid) + holders x (kept_by c)

-- an image of so many frames is followed so far: what it holds waits, was laid down or is kept, no
-- frame twice; what is kept it holds; and a block is lent for each that waits or was laid down
pub record IsFollowing (frames : ℕ) (numbers : List ℕ) (waiting : List Block) (laid : List Receipt)
    (c : Core) : Type 0 where
  pub all : (x : ℕ) → x < frames → IsHeldBy numbers x → 0 < among x waiting laid c
  pub apart : (x : ℕ) → among x waiting laid c ≤ 1
  pub only : (x : ℕ) → IsHeld (kept_by c) x → IsHeldBy numbers x
  pub lent : lent_by c ≡ pos (length waiting + length laid)

-- the block was laid down, for the last receipt, and the core is as it was
pub record HasLaid (b : Block) (old new : List Receipt) (c d : Core) : Type 0 where
  pub receipt : Receipt
  pub receipts : new ≡ old ++ receipt ∷ []
  pub same : laid_down receipt ≡ block_in b
  pub stays : d ≡ c

-- the block was split, its halves wait, and the core keeps what it did before
pub record HasHalved (a : Allocator) (b : Block) (old new : List Block) (c d : Core) : Type 0 where
  pub lower : Block
  pub upper : Block
  pub waiting : new ≡ (old ++ lower ∷ []) ++ upper ∷ []
  pub split : HasSplit a b lower upper c d
  pub kept : kept_by d ≡ kept_by c
