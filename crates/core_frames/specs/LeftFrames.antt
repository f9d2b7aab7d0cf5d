-- The bits and flags of frames that are left, and the blocks that they show.
use Rattle.std.specs.Prelude.{◌≡◌, ℕ, ◌+◌, ◌*◌, ◌/◌, ◌%◌, ◌^◌, ◌<◌, ◌≤◌, List, length, Bool, false, slice_index, slice_index_or}
use Rattle.std.specs.Int.{bit_at}
use Rattle.std.specs.List.{All}
use Rattle.frame_words.specs.Geometry.{huge_order}
use Rattle.frame_words.specs.Runs.{word_bits, child_words}
use Rattle.frame_words.specs.Words.{flag}
use Rattle.frame_model.specs.declared.block.FrameBlock.{FrameBlock}
use Rattle.frame_model.specs.declared.key.Key.{Key}
use Rattle.frame_model.specs.Key.{frame_count, child_of}
use Rattle.frame_model.specs.Block.{IsBlock, small_at, whole_at, smalls, wholes}
use Rattle.frame_model.specs.Words.{bit_word_of, huge_of}

-- the bit of a frame in a list of bit words
abbrev pub bit_in : List ℕ → ℕ → ℕ
bit_in bits x = bit_at (slice_index bits (x / word_bits)) (x % word_bits)

-- 1 where a list of flags has the flag of a child
abbrev pub flag_at : List Bool → ℕ → ℕ
flag_at huge c = flag (slice_index_or huge c false)

-- these are the bit words of an image
pub record AreBitWordsOf (key : Key) (words bits : List ℕ) : Type 0 where
  pub count : length bits ≡ child_words * key.children
  pub each : (w : ℕ) → w < child_words * key.children → slice_index bits w ≡ bit_word_of key words w

-- these are the huge flags of an image
pub record AreFlagsOf (key : Key) (words : List ℕ) (huge : List Bool) : Type 0 where
  pub count : length huge ≡ key.children
  pub each : (c : ℕ) → c < key.children → flag_at huge c ≡ huge_of words c

-- there is a bit for each frame and a flag for each child, and they are those of these blocks
pub record Shows (key : Key) (bits : List ℕ) (huge : List Bool) (left : List FrameBlock)
    : Type 0 where
  pub bit_words : length bits ≡ child_words * key.children
  pub flags : length huge ≡ key.children
  pub smalls : (x : ℕ) → x < frame_count key → smalls x left ≡ bit_in bits x
  pub wholes : (c : ℕ) → c < key.children → wholes c left ≡ flag_at huge c
  pub blocks : All (IsBlock key) left

-- the block is aligned and ends inside a memory of so many frames, and its bits are set, or for order 9
-- its flag
pub record IsShown (frames : ℕ) (bits : List ℕ) (huge : List Bool) (b : FrameBlock) : Type 0 where
  pub aligned : b.frame % 2 ^ b.order ≡ 0
  pub exists : b.frame + 2 ^ b.order ≤ frames
  pub set : b.order < huge_order → (x : ℕ) → b.frame ≤ x → x < b.frame + 2 ^ b.order → bit_in bits x ≡ 1
  pub flagged : b.order ≡ huge_order → flag_at huge (child_of b.frame) ≡ 1

-- the bits of the block are clear now, or for order 9 its flag, and all others as before
pub record HasCleared (b : FrameBlock) (bits : List ℕ) (huge : List Bool)
    (new_bits : List ℕ) (new_huge : List Bool) : Type 0 where
  pub bit_words : length new_bits ≡ length bits
  pub flags : length new_huge ≡ length huge
  pub cleared : (x : ℕ) → x < word_bits * length bits
      → bit_in new_bits x + small_at x b ≡ bit_in bits x
  pub unflagged : (c : ℕ) → c < length huge
      → flag_at new_huge c + whole_at c b ≡ flag_at huge c
