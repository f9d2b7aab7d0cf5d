-- What a contract sees of an allocator for one thread, and what the image says that it leaves.
use Rattle.std.specs.Prelude.{◌≡◌, ℕ, ◌<◌, List, ◌∷◌, ◌++◌}
use Rattle.std.specs.List.Sorted.{IsPermutation}
use Rattle.frame_words.specs.declared.geometry.Geometry.{Geometry}
use Rattle.frame_model.specs.declared.block.FrameBlock.{FrameBlock}
use Rattle.frame_model.specs.declared.key.Key.{Key}
use Rattle.frame_model.specs.Key.{sealed_key, frame_count}
use Rattle.frame_model.specs.View.{boot_blocks}
use Rattle.frame_model.specs.Block.{smalls, wholes}
use Rattle.frame_model.specs.Holding.{holders}
use Rattle.frame_model.specs.Report.{held_at}
use Rattle.frame_model.specs.Words.{bit_of, huge_of}
use Rattle.core_frames.specs.Splits.{AreHalves}

-- the memory and the ranges that its opening held back, the blocks that were taken and neither given
-- nor kept, and those that were kept
pub record PlainState : Type 0 where
  pub geometry : Geometry
  pub ranges : List (ℕ × ℕ)
  pub out : List FrameBlock
  pub kept : List FrameBlock

-- the key of the allocator's memory
abbrev pub memory_by : PlainState → Key
memory_by state = sealed_key state.geometry state.ranges

-- the blocks that are held: those that are out, those that were kept, and the frames that nobody is
-- ever given, past the end and in the ranges
abbrev pub held_by : PlainState → List FrameBlock
held_by state = (state.out ++ state.kept) ++ boot_blocks (memory_by state)

-- a block that was out is split: its halves, the lower first, are out in its place
pub record Splits (b lower upper : FrameBlock) (old new : PlainState) : Type 0 where
  pub halves : AreHalves b lower upper
  pub out : IsPermutation (b ∷ new.out) (lower ∷ upper ∷ old.out)

-- a block of order 0 has no halves: it is handed back, and nothing has changed
abbrev pub HandsBack : (b same : FrameBlock) (old new : PlainState) → Type 0
HandsBack b same old new = (same ≡ b) × ((b.order ≡ 0) × (new ≡ old))

-- the words hold exactly the frames of these blocks: those of order 9 by the flag of their child,
-- the others by the bits of their frames
pub record HoldsExactly (key : Key) (words : List ℕ) (held : List FrameBlock) : Type 0 where
  pub smalls : (x : ℕ) → x < frame_count key → bit_of key words x ≡ smalls x held
  pub wholes : (c : ℕ) → c < key.children → huge_of words c ≡ wholes c held
  pub frames : (x : ℕ) → x < frame_count key → held_at key words x ≡ holders x held
