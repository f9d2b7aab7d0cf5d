-- What a closing gives.
use Rattle.std.specs.Prelude.{◌≡◌, ℕ, ℤ, pos, ◌+ℤ◌, ◌<◌, ◌≤◌, List, [], ◌∷◌, length, false, true, flat_map}
use Rattle.std.specs.List.{All, sum_by}
use Rattle.frame_words.specs.declared.fault.Fault.{Fault}
use Rattle.frame_words.specs.declared.fault.Fault.TheVariants.{MissingCores, NoMemory}
use Rattle.frame_model.specs.declared.block.FrameBlock.{FrameBlock}
use Rattle.frame_model.specs.declared.key.Key.{Key}
use Rattle.frame_model.specs.declared.view.Eye.{Eye}
use Rattle.frame_model.specs.declared.view.View.{View}
use Rattle.frame_model.specs.Block.{covers, smalls, wholes}
use Rattle.frame_model.specs.Holding.{IsHolding}
use Rattle.frame_model.specs.View.{IsIdle}
use Rattle.frame_model.specs.Events.{State, Has, Fits}
use Rattle.frame_core.specs.Image.{Contents, key_in, IsImage}
use Rattle.frame_model.specs.Laws.{AddsUp, HoldsJust}
use Rattle.frame_core.specs.Moves.{HasSizes}
use Rattle.frame_model.specs.Report.{held_at}
use Rattle.frame_table.specs.Openings.{LeavesOnceRebuilt}
use Rattle.frame_table.specs.Seats.{view_of}
use Rattle.frame_table.specs.declared.seats.CoreSeat.{CoreSeat}

-- how many blocks more were handed out through these seats than were taken in
unfoldable pub lent_through : List CoreSeat → ℤ
lent_through [] = pos 0
lent_through (s ∷ seats) = (view_of s).lent +ℤ lent_through seats

-- how many shares these seats have
unfoldable pub share_through : List CoreSeat → ℕ
share_through seats = sum_by (λ s. (view_of s).share) seats

-- all blocks that these seats keep
unfoldable pub kept_through : List CoreSeat → List FrameBlock
kept_through seats = flat_map (λ s. (view_of s).kept) seats

-- the view has the shares of all these seats, what they lent, and what they keep; what was held before the
-- opening is not with it
pub record IsGathered (seats : List CoreSeat) (v : View) : Type 0 where
  pub idle : IsIdle v
  pub not_ground : v.is_ground ≡ false
  pub share : v.share ≡ share_through seats
  pub lent : v.lent ≡ lent_through seats
  pub smalls : (x : ℕ) → smalls x v.kept ≡ smalls x (kept_through seats)
  pub wholes : (c : ℕ) → wholes c v.kept ≡ wholes c (kept_through seats)

-- the words are those of a state that fits, in which one idle seat has all shares
pub record IsClosed (key : Key) (seats : List CoreSeat) (ws : List ℕ) : Type 0 where
  pub state : State
  pub id : ℕ
  pub eye : Eye
  pub words : state.words ≡ ws
  pub at : Has state id eye
  pub fits : Fits key key.cores state
  pub gathered : IsGathered seats eye.view
  pub share : eye.view.share ≡ key.cores

-- each frame of the block is held
abbrev pub IsHeldIn : Key → List ℕ → FrameBlock → Type 0
IsHeldIn key words b = (x : ℕ) → covers b x ≡ 1 → held_at key words x ≡ 1

-- what the words of a closed table say: the counters add up, all that was kept is held and apart, and
-- where the memory is sealed and nothing is lent, nothing else is
pub record TellsAll (key : Key) (seats : List CoreSeat) (words : List ℕ) : Type 0 where
  pub adds_up : AddsUp key words
  pub kept_held : All (IsHeldIn key words) (kept_through seats)
  pub kept_apart : IsHolding key (kept_through seats)
  pub just_kept : key.sealed ≡ true → lent_through seats ≡ pos 0
      → HoldsJust key words (kept_through seats)

-- the image of a table that was closed with the seats of all its cores; what they keep may be adopted once it
-- is rebuilt
pub record IsClosingOf (key : Key) (seats : List CoreSeat) (image : Contents) : Type 0 where
  pub sizes : HasSizes key image.geometry
  pub is_image : IsImage (key_in image) image.words
  pub enough : key.cores ≤ length seats
  pub closed : IsClosed key seats image.words
  pub tells : TellsAll key seats image.words
  pub kept_left : LeavesOnceRebuilt image (kept_through seats)

-- why a table was not closed: a seat is missing, or none is and there is not enough memory
abbrev pub IsUnclosedFor : (cores seats : ℕ) → Fault → Type 0
IsUnclosedFor cores seats MissingCores = seats < cores
IsUnclosedFor cores seats NoMemory = cores ≤ seats
IsUnclosedFor cores seats _ = ⊥
