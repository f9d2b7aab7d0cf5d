-- What a stop gives.
use Rattle.std.specs.Prelude.{◌≡◌, ℕ, ◌<◌, ◌≤◌, List, [], true, vec_capacity}
use Rattle.std.specs.List.{All}
use Rattle.std.specs.declared.vec.Vec.{Vec}
use Rattle.frame_model.specs.declared.block.FrameBlock.{FrameBlock}
use Rattle.frame_model.specs.declared.key.Key.{Key}
use Rattle.frame_model.specs.declared.view.Eye.{Eye}
use Rattle.frame_model.specs.Events.{State, views_of, Has, Fits}
use Rattle.frame_model.specs.Holding.{holders, IsHolding}
use Rattle.frame_core.specs.Image.{Contents, key_in, IsImage}
use Rattle.frame_model.specs.Key.{frame_count, is_boot_frame}
use Rattle.frame_model.specs.Laws.{holding_of}
use Rattle.frame_core.specs.Moves.{HasSizes}
use Rattle.frame_model.specs.Report.{held_at}
use Rattle.frame_model.specs.Words.{word_count}
use Rattle.frame_table.specs.Closing.{IsHeldIn}
use Rattle.frame_table.specs.Openings.{LeavesOnceRebuilt}
use Rattle.frame_table.specs.Seats.{view_of}
use Rattle.frame_table.specs.declared.seats.CoreSeat.{CoreSeat}

-- the list is empty, and the words of the memory have room in it
abbrev pub IsRoomFor : {Z : Type 0} → Key → Vec ℕ Z → Type 0
IsRoomFor key room = (room.items ≡ []) × (word_count key ≤ vec_capacity room)

-- the words hold a frame just where it lies in one of these blocks
abbrev pub HoldsFramesOf : Key → List ℕ → List FrameBlock → Type 0
HoldsFramesOf key words blocks =
    (x : ℕ) → x < frame_count key → held_at key words x ≡ holders x blocks

-- the frames that nobody is ever given are held
abbrev pub HoldsBootFrames : Key → List ℕ → Type 0
HoldsBootFrames key words =
    (x : ℕ) → x < frame_count key → is_boot_frame key x ≡ true → held_at key words x ≡ 1

-- the image of a table between two steps, with this seat at it: the words fit some views, one of which
-- is the seat's own, and hold just the frames of all blocks of these views; what the seat keeps is held
pub record IsImageAtStop (key : Key) (last : CoreSeat) (image : Contents) : Type 0 where
  pub sizes : HasSizes key image.geometry
  pub is_image : IsImage (key_in image) image.words
  pub state : State
  pub words : state.words ≡ image.words
  pub fits : Fits key key.cores state
  pub id : ℕ
  pub eye : Eye
  pub at : Has state id eye
  pub seat : eye.view ≡ view_of last
  pub kept_held : All (IsHeldIn key image.words) (view_of last).kept
  pub kept_apart : IsHolding key (view_of last).kept
  pub kept_left : LeavesOnceRebuilt image (view_of last).kept
  pub held : HoldsFramesOf key image.words (holding_of key (views_of state))
  pub boot : key.sealed ≡ true → HoldsBootFrames key image.words
