-- A holding: the blocks that are held, as a list whose order does not matter.
use Rattle.std.specs.Prelude.{◌≡◌, ℕ, ◌<◌, ◌≤◌, List, All}
use Rattle.std.specs.List.{sum_by}
use Rattle.frame_model.specs.declared.block.FrameBlock.{FrameBlock}
use Rattle.frame_model.specs.declared.key.Key.{Key}
use Rattle.frame_model.specs.Block.{IsBlock, covers}

-- how many blocks of a list the frame lies in
unfoldable pub holders : ℕ → List FrameBlock → ℕ
holders frame blocks = sum_by (λ b. covers b frame) blocks

-- blocks of the key, no two of which share a frame
pub record IsHolding (key : Key) (held : List FrameBlock) : Type 0 where
  pub blocks : All (IsBlock key) held
  pub disjoint : (x : ℕ) → holders x held ≤ 1

-- the frame lies in a block of the holding
abbrev pub IsHeld : List FrameBlock → ℕ → Type 0
IsHeld held frame = 0 < holders frame held

-- the frame lies in no block of the holding
abbrev pub IsFree : List FrameBlock → ℕ → Type 0
IsFree held frame = holders frame held ≡ 0

-- no frame of the block is held
abbrev pub IsFreeBlock : List FrameBlock → FrameBlock → Type 0
IsFreeBlock held b = (x : ℕ) → covers b x ≡ 1 → IsFree held x
