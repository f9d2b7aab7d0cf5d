-- Lists of blocks that a block leaves.
use Rattle.std.specs.Prelude.{◌≡◌, ℕ, zero, suc, ◌+◌, ◌^◌, ◌<◌, List, [], ◌∷◌, ◌++◌, Bool, ◌&&◌, ◌||◌, nat_eq, nat_lt, nat_le, if◌then◌else◌, count_by, flat_map}
use Rattle.frame_model.specs.declared.block.FrameBlock.{FrameBlock}
use Rattle.frame_model.specs.Key.{child_of}
use Rattle.frame_model.specs.Block.{block, covers, smalls, wholes}

-- the same frames in one block
unfoldable pub is_same : FrameBlock → FrameBlock → Bool
is_same a b = nat_eq a.frame b.frame && nat_eq a.order b.order

-- how often the block stands in the list
unfoldable pub times : FrameBlock → List FrameBlock → ℕ
times b blocks = count_by (is_same b) blocks

-- the list with this very block left out once
unfoldable pub less_one : FrameBlock → List FrameBlock → List FrameBlock
less_one b [] = []
less_one b (d ∷ blocks) = if is_same b d then blocks else d ∷ less_one b blocks

-- the block and these frames share none
unfoldable pub is_apart : FrameBlock → FrameBlock → Bool
is_apart b d =
    nat_le (b.frame + 2 ^ b.order) d.frame || nat_le (d.frame + 2 ^ d.order) b.frame

-- all of these frames lie in the block
unfoldable pub is_inside : FrameBlock → FrameBlock → Bool
is_inside b d = nat_le b.frame d.frame && nat_le (d.frame + 2 ^ d.order) (b.frame + 2 ^ b.order)

-- what remains of 2 ^ order frames without those of the block: all, none, or that of both halves
unfoldable pub remains : FrameBlock → ℕ → ℕ → List FrameBlock
remains b zero frame = if nat_eq (covers b frame) 1 then [] else block frame 0 ∷ []
remains b (suc order) frame =
    if is_apart b (block frame (suc order)) then block frame (suc order) ∷ []
    else if is_inside b (block frame (suc order)) then []
    else remains b order frame ++ remains b order (frame + 2 ^ order)

-- what remains of a block; one of order 9 stays as it is
unfoldable pub remainder : FrameBlock → FrameBlock → List FrameBlock
remainder b d = if nat_lt d.order 9 then remains b d.order d.frame else d ∷ []

-- The blocks without the frames of one: of order 9 that very block leaves, else what lies in it.
unfoldable pub without : FrameBlock → List FrameBlock → List FrameBlock
without b blocks = if nat_lt b.order 9 then flat_map (remainder b) blocks else less_one b blocks

-- each frame of the block is in one of the blocks below order 9, or the block is one of order 9
pub record HasFrames (blocks : List FrameBlock) (b : FrameBlock) : Type 0 where
  pub smalls : b.order < 9 → (x : ℕ) → covers b x ≡ 1 → smalls x blocks ≡ 1
  pub wholes : b.order ≡ 9 → 0 < wholes (child_of b.frame) blocks
