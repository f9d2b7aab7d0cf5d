-- What the bytes of the frames say: which block begins at each, and whether it is out or kept.
-- A byte is 0 where no block begins. No public clause cites this module.
use Rattle.std.specs.Prelude.{ℕ, ◌+◌, ◌-◌, List, [], ◌∷◌, ◌++◌, ◌&&◌, nat_le, nat_lt, if◌then◌else◌}
use Rattle.frame_model.specs.declared.block.FrameBlock.{FrameBlock}
use Rattle.frame_model.specs.Block.{block}

-- the byte of a block of order 0 that is out, of which each further order is one more
abbrev pub first_out : ℕ
first_out = 1

-- the same of a block that was kept
abbrev pub first_kept : ℕ
first_kept = 11

-- the block that begins at a frame, if its byte is of those that begin with `first`
unfoldable pub begun : ℕ → ℕ → ℕ → List FrameBlock
begun first frame byte =
    if nat_le first byte && nat_lt byte (first + 10) then block frame (byte - first) ∷ [] else []

-- what each item of a list gives at its place, in order, counted from a place on
abbrev pub gathered : {X : Type 0} → (ℕ → ℕ → List X) → ℕ → List ℕ → List X
gathered gives from [] = []
gathered gives from (item ∷ items) = gives from item ++ gathered gives (from + 1) items

-- the blocks that are out, in the order of their frames
unfoldable pub out_of : List ℕ → List FrameBlock
out_of bytes = gathered (begun first_out) 0 bytes

-- the blocks that were kept, in the order of their frames
unfoldable pub kept_of : List ℕ → List FrameBlock
kept_of bytes = gathered (begun first_kept) 0 bytes
