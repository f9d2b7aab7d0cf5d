-- What a report counts: frames and blocks that are held or not, by bits and huge flags alone.
use Rattle.std.specs.Prelude.{ℕ, ◌+◌, ◌-◌, ◌*◌, ◌/◌, ◌^◌, List, max, nat_eq, if◌then◌else◌}
use Rattle.std.specs.List.{sum_by, range_with_len}
use Rattle.frame_words.specs.Geometry.{tree_frames}
use Rattle.frame_model.specs.declared.block.FrameBlock.{FrameBlock}
use Rattle.frame_model.specs.declared.key.Key.{Key}
use Rattle.frame_model.specs.Key.{child_of, frame_count, size_of}
use Rattle.frame_model.specs.Block.{block}
use Rattle.frame_model.specs.Words.{huge_of, bit_of}

-- 1 where the frame is held: its bit is set, or its child was taken as a huge frame
unfoldable pub held_at : Key → List ℕ → ℕ → ℕ
held_at key words frame = max (bit_of key words frame) (huge_of words (child_of frame))

-- how many of n frames from one on are held
unfoldable pub held_within : Key → List ℕ → ℕ → ℕ → ℕ
held_within key words from n = sum_by (held_at key words) (range_with_len from n)

-- 1 where no frame of the block is held
unfoldable pub clear_at : Key → List ℕ → FrameBlock → ℕ
clear_at key words b = if nat_eq (held_within key words b.frame (2 ^ b.order)) 0 then 1 else 0

-- how many aligned blocks of an order, among n frames from one on, have no held frame
unfoldable pub clear_within : Key → List ℕ → ℕ → ℕ → ℕ → ℕ
clear_within key words order from n =
    sum_by (λ i. clear_at key words (block (from + 2 ^ order * i) order))
    (range_with_len 0 (n / 2 ^ order))

-- the held frames of a tree
abbrev pub held_frames_of : Key → List ℕ → ℕ → ℕ
held_frames_of key words tree = held_within key words (tree_frames * tree) (size_of key tree)

-- the free frames of a tree
abbrev pub free_frames_of : Key → List ℕ → ℕ → ℕ
free_frames_of key words tree = size_of key tree - held_frames_of key words tree

-- the blocks of an order in a tree that have no held frame
abbrev pub clear_blocks_of : Key → List ℕ → ℕ → ℕ → ℕ
clear_blocks_of key words order tree =
    clear_within key words order (tree_frames * tree) (size_of key tree)

-- the held frames of all memory
abbrev pub held_frames : Key → List ℕ → ℕ
held_frames key words = held_within key words 0 (frame_count key)

-- the free frames of all memory
abbrev pub free_frames : Key → List ℕ → ℕ
free_frames key words = frame_count key - held_frames key words

-- the blocks of an order, of all memory, that have no held frame
abbrev pub clear_blocks : Key → List ℕ → ℕ → ℕ
clear_blocks key words order = clear_within key words order 0 (frame_count key)
