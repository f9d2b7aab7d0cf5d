-- Blocks that an opening is told to hold, each in its zone.
use Rattle.std.specs.Prelude.{ℕ, ◌-◌, ◌<◌, ◌≤◌, Bool, ◌&&◌, nat_le, nat_lt, List, length, map, filter, slice_index_or}
use Rattle.frame_model.specs.Block.{block}
use Rattle.frame_model.specs.declared.block.FrameBlock.{FrameBlock}
use Rattle.zone_slots.specs.Layouts.{Stretch, end_of, LiesInOne}

-- the block begins in a zone
abbrev pub BeginsInOne : List Stretch → FrameBlock → Type 0
BeginsInOne zones b = LiesInOne b.frame zones

-- whether the block begins in the zone
abbrev pub begins_in : Stretch → FrameBlock → Bool
begins_in zone b = nat_le zone.0 b.frame && nat_lt b.frame (end_of zone)

-- the block, counted from the zone's first frame
abbrev pub block_within : Stretch → FrameBlock → FrameBlock
block_within zone b = block (b.frame - zone.0) b.order

-- those that begin in the zone, counted from its first frame
abbrev pub blocks_within : Stretch → List FrameBlock → List FrameBlock
blocks_within zone blocks = map (block_within zone) (filter (begins_in zone) blocks)

-- the first frame of one of the blocks
abbrev pub first_frame_at : List FrameBlock → ℕ → ℕ
first_frame_at blocks k = (slice_index_or blocks k (block 0 0)).frame

-- just so many of them, the first ones, begin below the frame
pub record BeginBelow (frame : ℕ) (blocks : List FrameBlock) (n : ℕ) : Type 0 where
  pub count : n ≤ length blocks
  pub below : (k : ℕ) → k < n → first_frame_at blocks k < frame
  pub behind : (k : ℕ) → n ≤ k → k < length blocks → frame ≤ first_frame_at blocks k
