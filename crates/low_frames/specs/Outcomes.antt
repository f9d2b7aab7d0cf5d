-- What takes ask, and how they may end.
use Rattle.std.specs.Prelude.{◌≡◌, ℕ, ◌^◌, ◌<◌, ◌≤◌, [], Option, None, IfSome, IfNone, true}
use Rattle.frame_words.specs.Geometry.{huge_order}
use Rattle.frame_model.specs.declared.block.FrameBlock.{FrameBlock}
use Rattle.frame_model.specs.declared.key.Key.{Key}
use Rattle.frame_model.specs.declared.view.View.{View}
use Rattle.frame_model.specs.Key.{tree_count, tree_of_child, is_boot_frame}
use Rattle.frame_model.specs.Block.{covers}
use Rattle.frame_model.specs.View.{paid_on}
use Rattle.frame_model.specs.Holding.{IsFreeBlock}
use Rattle.frame_core.specs.Mover.{Mover, LiesInside, Keeps}
use Rattle.low_frames.specs.Takes.{Counts, IsAsBefore, StaysSure}
use Rattle.low_frames.specs.Alone.{FindsOf, WordsTake, NoneIsFree}

-- What a take asks.

-- nothing is in flight but what is paid: enough for a block of this order in the child
pub record MayTakeIn {T H : Type 0} (low high c n : ℕ) (m : Mover T H) : Type 0 where
  pub child : c < m.key.children
  pub least : low ≤ n
  pub order : n ≤ high
  pub share : 0 < m.view.share
  pub charged : m.view.charged ≡ None
  pub own : m.view.own ≡ []
  pub paid : 2 ^ n ≤ paid_on (tree_of_child c) m.view

-- nothing is in flight but what is paid: enough for a block of this order in the tree
pub record MayTakeOf {T H : Type 0} (t n : ℕ) (m : Mover T H) : Type 0 where
  pub tree : t < tree_count m.key
  pub order : n ≤ huge_order
  pub share : 0 < m.view.share
  pub charged : m.view.charged ≡ None
  pub own : m.view.own ≡ []
  pub paid : 2 ^ n ≤ paid_on t m.view

-- How it may end.

-- the block has no frame that the opening held back, where what it held back is known
abbrev pub HasNoBootFrame : Key → FrameBlock → Type 0
HasNoBootFrame key b = (x : ℕ) → key.sealed ≡ true → is_boot_frame key x ≡ true → covers b x ≡ 0

-- one of these blocks is out, and the view turned so; no frame of it was kept, held back or past the end
pub record TakesOut {T H : Type 0} (block_of : H → FrameBlock) (In : FrameBlock → Type 0)
    (V : View → View → Type 0) (held : H) (old new : Mover T H) : Type 0 where
  pub view : V old.view new.view
  pub is_out : new.is_out held
  pub is_one : In (block_of held)
  pub apart : IsFreeBlock old.view.kept (block_of held)
  pub no_boot_frame : HasNoBootFrame old.key (block_of held)
  pub inside : LiesInside old.key (block_of held)
  pub alone : old.is_alone → WordsTake old.key old.words new.words (block_of held)

-- all is as before, and where nobody else steps none of these blocks is free
pub record TakesNothing {T H : Type 0} (In : FrameBlock → Type 0) (old new : Mover T H) : Type 0 where
  pub view : IsAsBefore old.view new.view
  pub alone : old.is_alone → FindsOf (NoneIsFree old.key In) old.words new.words

-- a take of one of these blocks in at most so many moves, which turns the view so
pub record Takes {T H : Type 0} (block_of : H → FrameBlock) (exact : ℕ → Type 0) (most : ℕ)
    (In : FrameBlock → Type 0) (V : View → View → Type 0) (answer : Option H)
    (old new : Mover T H) : Type 0 where
  pub keeps : Keeps old new
  pub counts : Counts exact most old new
  pub sure : StaysSure old new
  pub some : IfSome answer (λ held. TakesOut block_of In V held old new)
  pub none : IfNone answer (TakesNothing In old new)
