-- What an allocator finds that is opened at a rebuilt image.
use Rattle.std.specs.Prelude.{◌≡◌, ℕ, List}
use Rattle.std.specs.List.{All}
use Rattle.frame_model.specs.declared.block.FrameBlock.{FrameBlock}
use Rattle.frame_core.specs.Image.{Contents, key_in}
use Rattle.frame_model.specs.Openings.{held_blocks}
use Rattle.frame_model.specs.Rebuilt.{IsRebuilt}
use Rattle.frame_table.specs.Openings.{unsealed_key, IsLeft, LeavesOnceRebuilt}
use Rattle.core_frames.specs.declared.shared.allocator.Allocator.{Allocator}
use Rattle.core_frames.specs.declared.shared.survivors.Survivors.{Survivors}
use Rattle.core_frames.specs.Cores.{memory_of}
use Rattle.core_frames.specs.Left.{left_blocks}

-- the blocks are those that the image holds once it is rebuilt
pub record AreHeldOnceRebuilt (image : Contents) (blocks : List FrameBlock) : Type 0 where
  pub words : List ℕ
  pub rebuilt : IsRebuilt (key_in image) image.words words
  pub held : blocks ≡ held_blocks (unsealed_key image.geometry) words

-- what every rebuilding of the image leaves may be adopted
abbrev pub MayAdopt : Contents → Allocator → Survivors → Type 0
MayAdopt image a s = (blocks : List FrameBlock) → LeavesOnceRebuilt image blocks
    → All (IsLeft (memory_of a) (left_blocks s)) blocks
