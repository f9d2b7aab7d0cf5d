-- The numbers of an image: nine for each child, its entry and its eight bit words.
use Rattle.std.specs.Prelude.{◌≡◌, ◌⊎◌, ℕ, ◌+◌, ◌*◌, ◌/◌, ◌%◌, ◌^◌, ◌<◌, ◌≤◌, List, length, slice_index}
use Rattle.std.specs.Int.{bit_at}
use Rattle.frame_model.specs.declared.block.FrameBlock.{FrameBlock}

-- the most frames that a memory has
abbrev pub most_frames : ℕ
most_frames = 2_097_152

-- the children of so many frames, of which the last may be cut
abbrev pub child_count_of : ℕ → ℕ
child_count_of frames = (frames + 511) / 512

-- the entry of a child: how many of its frames are free, and above that its flag
abbrev pub entry_in : List ℕ → ℕ → ℕ
entry_in numbers c = slice_index numbers (9 * c)

-- the bit of a frame
abbrev pub image_bit : List ℕ → ℕ → ℕ
image_bit numbers x = bit_at (slice_index numbers (9 * (x / 512) + 1 + x % 512 / 64)) (x % 64)

-- the child is held as one block of order 9
abbrev pub IsHugeIn : List ℕ → ℕ → Type 0
IsHugeIn numbers c = 2 ^ 15 ≤ entry_in numbers c

-- the frame is held, in a huge frame or by itself
abbrev pub IsHeldBy : List ℕ → ℕ → Type 0
IsHeldBy numbers x = IsHugeIn numbers (x / 512) ⊎ (image_bit numbers x ≡ 1)

-- there is such a block, whose frames are numbers of 32 bits, and none of them is held
pub record IsFreeInImage (numbers : List ℕ) (b : FrameBlock) : Type 0 where
  pub order : b.order ≤ 9
  pub numbered : b.frame + 2 ^ b.order < 2 ^ 32
  pub free : (x : ℕ) → b.frame ≤ x → x < b.frame + 2 ^ b.order → ¬ IsHeldBy numbers x

-- all frames of the block are held
abbrev pub AreAllHeld : List ℕ → FrameBlock → Type 0
AreAllHeld numbers b = (x : ℕ) → b.frame ≤ x → x < b.frame + 2 ^ b.order → IsHeldBy numbers x

-- an entry counts at most a child's frames
pub record IsEntry (entry : ℕ) : Type 0 where
  pub below : entry < 2 ^ 16
  pub free : entry % 2 ^ 15 ≤ 512

-- the child has an entry, and is held as one block only where the memory has it whole
pub record IsChildOf (frames : ℕ) (numbers : List ℕ) (c : ℕ) : Type 0 where
  pub entry : IsEntry (entry_in numbers c)
  pub whole : IsHugeIn numbers c → 512 * (c + 1) ≤ frames

-- the numbers are those of an image of so many frames: past the end all is held
pub record IsImageOf (frames : ℕ) (numbers : List ℕ) : Type 0 where
  pub count : length numbers ≡ 9 * child_count_of frames
  pub children : (c : ℕ) → c < child_count_of frames → IsChildOf frames numbers c
  pub past_end : (x : ℕ) → frames ≤ x → x < 512 * child_count_of frames → image_bit numbers x ≡ 1
