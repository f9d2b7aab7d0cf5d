-- What an opening gives.
use Rattle.std.specs.Prelude.{◌≡◌, ℕ, ◌+◌, ◌^◌, ◌≤◌, List, length, false, true}
use Rattle.std.specs.List.{All}
use Rattle.frame_words.specs.Geometry.{most_cores}
use Rattle.frame_words.specs.declared.geometry.Geometry.{Geometry}
use Rattle.frame_model.specs.declared.block.FrameBlock.{FrameBlock}
use Rattle.frame_model.specs.declared.key.Key.{Key}
use Rattle.frame_model.specs.declared.view.View.{View}
use Rattle.frame_model.specs.Block.{IsBlock}
use Rattle.frame_model.specs.Key.{key_of, IsKey}
use Rattle.frame_model.specs.Openings.{held_blocks}
use Rattle.frame_model.specs.Rebuilt.{IsRebuilt}
use Rattle.frame_model.specs.View.{idle}
use Rattle.frame_model.specs.Seats.{Cut, adopt}
use Rattle.frame_model.specs.Without.{without, HasFrames}
use Rattle.frame_core.specs.Image.{Contents, key_in}
use Rattle.frame_table.specs.Seats.{key_at, id_of, view_of, words_known_by, KnowsAll, Sits, IsSeat}
use Rattle.frame_table.specs.declared.ground_seat.GroundSeat.{GroundSeat}
use Rattle.frame_table.specs.declared.seats.CoreSeat.{CoreSeat}
use Rattle.frame_table.specs.declared.table.FrameTable.{FrameTable}

-- the key of a memory that was in use before its opening
abbrev pub unsealed_key : Geometry → Key
unsealed_key geometry = record (key_of geometry) { sealed = false }

-- the view after so many moves
abbrev pub moved : ℕ → View → View
moved n v = record v { moves = n }

-- a seat as an opening gives it: idle, with one share, nothing lent and nothing kept; where there is
-- one core, it has all shares and knows the words
pub record IsNew (t : FrameTable) (s : CoreSeat) : Type 0 where
  pub sits : Sits t s
  pub moves : (view_of s).moves ≤ most_cores
  pub view : view_of s ≡ moved (view_of s).moves (idle (key_at t) 1)
  pub knows : (key_at t).cores ≡ 1 → KnowsAll (words_known_by s)

-- the table is of this memory, and each of its cores has a seat there, in order and as an opening gives it
pub record IsOpenedAt (key : Key) (t : FrameTable) (seats : List CoreSeat) : Type 0 where
  pub memory : key_at t ≡ key
  pub is_key : IsKey key
  pub count : length seats ≡ key.cores
  pub each : All (IsNew t) seats

-- what is held by the ground
abbrev pub ground_view : GroundSeat → View
ground_view g = g.seat.me.0.view

-- the seat of what was held before the opening of this table
pub record IsGround (t : FrameTable) (g : GroundSeat) : Type 0 where
  pub at : IsSeat (id_of t) (key_at t) g.seat.table_id g.seat.me
  pub share : (ground_view g).share ≡ 0
  pub is_ground : (ground_view g).is_ground ≡ true

-- the block is one of the memory, all of its frames exist, and they are left in its own form: as a
-- huge frame for order 9, else as frames of smaller blocks
pub record IsLeft (key : Key) (left : List FrameBlock) (b : FrameBlock) : Type 0 where
  pub is_block : IsBlock key b
  pub exists : b.frame + 2 ^ b.order ≤ key.frames
  pub held : HasFrames left b

-- whoever rebuilds the image finds each of these blocks left, in its own form
abbrev pub LeavesOnceRebuilt : Contents → List FrameBlock → Type 0
LeavesOnceRebuilt image blocks = (words : List ℕ) → IsRebuilt (key_in image) image.words words
    → All (IsLeft (unsealed_key image.geometry) (held_blocks (unsealed_key image.geometry) words)) blocks

-- a block that was held before the opening is handed out
abbrev pub adopt_block : FrameBlock → Cut
adopt_block b = adopt b (without b)
