-- Blocks that an opening is told to hold.
use Rattle.std.specs.Prelude.{◌≡◌, ℕ, ◌+◌, ◌/◌, ◌%◌, ◌^◌, ◌<◌, ◌≤◌, List}
use Rattle.std.specs.List.Sorted.{IsNonDecreasingBy}
use Rattle.frame_model.specs.declared.block.FrameBlock.{FrameBlock}
use Rattle.frame_model.specs.Holding.{holders}
use Rattle.frame_slots.specs.Numbers.{image_bit, IsHugeIn}

-- an image of so many frames holds the block in its own form: a huge frame by its flag, a smaller one
-- by its bits
pub record IsHeldAs (frames : ℕ) (numbers : List ℕ) (b : FrameBlock) : Type 0 where
  pub order : b.order ≤ 9
  pub aligned : b.frame % 2 ^ b.order ≡ 0
  pub inside : b.frame + 2 ^ b.order ≤ frames
  pub huge : b.order ≡ 9 → IsHugeIn numbers (b.frame / 512)
  pub alone : b.order < 9 → ¬ IsHugeIn numbers (b.frame / 512)
  pub set : b.order < 9 → (x : ℕ) → b.frame ≤ x → x < b.frame + 2 ^ b.order → image_bit numbers x ≡ 1

-- the order is one of a block
abbrev pub IsOrderedBlock : FrameBlock → Type 0
IsOrderedBlock b = b.order ≤ 9

-- no block begins before one in front of it
abbrev pub Ascend : List FrameBlock → Type 0
Ascend blocks = IsNonDecreasingBy (λ b. b.frame) blocks

-- no two of the blocks share a frame
abbrev pub ShareNoFrame : List FrameBlock → Type 0
ShareNoFrame blocks = (x : ℕ) → holders x blocks ≤ 1
