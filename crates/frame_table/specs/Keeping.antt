-- The blocks that a core keeps, which stay held without a value that stands for them.
use Rattle.std.specs.Prelude.{◌≡◌, pos, ◌+◌, ◌+ℤ◌, ◌-ℤ◌, ◌∷◌}
use Rattle.frame_model.specs.declared.block.FrameBlock.{FrameBlock}
use Rattle.frame_model.specs.declared.view.View.{View}
use Rattle.frame_core.specs.Mover.{Mover, Keeps, KeepsOthers}
use Rattle.frame_model.specs.Without.{less_one}
use Rattle.frame_table.specs.Seats.{block_in}
use Rattle.frame_table.specs.Ties.{Tied}
use Rattle.frame_table.specs.declared.block.Block.{Block}

-- by one move the view keeps the block, as the first one, and lends one block fewer
abbrev pub HasKept : FrameBlock → View → View → Type 0
HasKept b v w = w ≡ record v {
  kept = b ∷ v.kept;
  lent = v.lent -ℤ pos 1;
  moves = v.moves + 1;
}

-- by one move the view keeps this block once less, and lends one block more
abbrev pub HasRecalled : FrameBlock → View → View → Type 0
HasRecalled b v w = w ≡ record v {
  kept = less_one b v.kept;
  lent = v.lent +ℤ pos 1;
  moves = v.moves + 1;
}

-- the block is kept, and is no longer out
pub record KeepsIn (held : Block) (old new : Mover Tied Block) : Type 0 where
  pub keeps : KeepsOthers block_in (block_in held) old new
  pub missed : new.missed ≡ old.missed
  pub view : HasKept (block_in held) old.view new.view
  pub reads : new.read ≡ old.read

-- the kept block is out
pub record Recalls (b : FrameBlock) (held : Block) (old new : Mover Tied Block) : Type 0 where
  pub keeps : Keeps old new
  pub missed : new.missed ≡ old.missed
  pub view : HasRecalled b old.view new.view
  pub is_block : block_in held ≡ b
  pub is_out : new.is_out held
  pub reads : new.read ≡ old.read
