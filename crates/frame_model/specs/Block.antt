-- Blocks, and how many of them hold a frame or are a whole child.
use Rattle.std.specs.Prelude.{◌≡◌, ℕ, ◌+◌, ◌*◌, ◌%◌, ◌^◌, ◌≤◌, List, ◌&&◌, nat_eq, nat_lt, nat_le, if◌then◌else◌, map, filter}
use Rattle.std.specs.List.{sum_by, range_with_len}
use Rattle.std.specs.Int.{bit_at}
use Rattle.frame_words.specs.Geometry.{child_frames, word_frames}
use Rattle.frame_model.specs.declared.block.FrameBlock.{FrameBlock}
use Rattle.frame_model.specs.declared.key.Key.{Key}
use Rattle.frame_model.specs.Key.{frame_count}

-- 2 ^ order frames from a frame on
abbrev pub block : ℕ → ℕ → FrameBlock
block frame order = record { frame = frame; order = order }

-- a block has an order up to 9, begins at a multiple of its size, and lies in memory
pub record IsBlock (key : Key) (b : FrameBlock) : Type 0 where
  pub order : b.order ≤ 9
  pub aligned : b.frame % 2 ^ b.order ≡ 0
  pub inside : b.frame + 2 ^ b.order ≤ frame_count key

-- 1 where the frame lies in the block, else 0
unfoldable pub covers : FrameBlock → ℕ → ℕ
covers b frame = if nat_le b.frame frame && nat_lt frame (b.frame + 2 ^ b.order) then 1 else 0

-- 1 where the block is below order 9 and the frame lies in it
unfoldable pub small_at : ℕ → FrameBlock → ℕ
small_at frame b = if nat_lt b.order 9 then covers b frame else 0

-- 1 where the block is the whole child
unfoldable pub whole_at : ℕ → FrameBlock → ℕ
whole_at child b = if nat_eq b.order 9 && nat_eq b.frame (child_frames * child) then 1 else 0

-- how many blocks of a list, below order 9, hold the frame
unfoldable pub smalls : ℕ → List FrameBlock → ℕ
smalls frame blocks = sum_by (small_at frame) blocks

-- how many blocks of a list are the whole child
unfoldable pub wholes : ℕ → List FrameBlock → ℕ
wholes child blocks = sum_by (whole_at child) blocks

-- the frames of a bit word whose bits a mask has, each as a block of order 0, the lowest first
unfoldable pub single_blocks : ℕ → ℕ → List FrameBlock
single_blocks word mask =
    map (λ x. block x 0)
    (filter (λ x. nat_eq (bit_at mask (x % word_frames)) 1) (range_with_len (word_frames * word) word_frames))
