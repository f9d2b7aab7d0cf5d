-- What a give leaves of the view of the one who gives.
use Rattle.std.specs.Prelude.{◌≡◌, ℕ, pos, ◌^◌, ◌-ℤ◌, ◌<◌, [], None}
use Rattle.frame_model.specs.declared.block.FrameBlock.{FrameBlock}
use Rattle.frame_model.specs.declared.view.View.{View}
use Rattle.frame_model.specs.Key.{tree_of, tree_of_child}
use Rattle.frame_model.specs.View.{NoneBut}
use Rattle.frame_core.specs.Mover.{Mover, KeepsOthers, KnowsWords}
use Rattle.frame_model.specs.Steps.Amounts.{more}
use Rattle.low_frames.specs.Takes.{Counts, StaysSure}
use Rattle.low_frames.specs.Alone.{WordsGive}

-- the frames of the block are paid, and one less is lent; all else but the counts is as before
abbrev pub HasTakenBack : FrameBlock → View → View → Type 0
HasTakenBack b v w = w ≡ record v {
  paid = more (tree_of b.frame) (2 ^ b.order) v.paid;
  lent = v.lent -ℤ pos 1;
  moves = w.moves;
  lost = w.lost;
}

-- all that was in flight, n frames of the child, is charged and paid
abbrev pub HasReleased : ℕ → ℕ → View → View → Type 0
HasReleased child n v w = w ≡ record v {
  charged = more child n v.charged;
  paid = more (tree_of_child child) n v.paid;
  own = [];
  moves = w.moves;
  lost = w.lost;
}

-- the block is out, and nothing is in flight but what is paid in its tree
pub record MayGive {T H : Type 0} (b : FrameBlock) (block : H) (m : Mover T H) : Type 0 where
  pub share : 0 < m.view.share
  pub held : m.is_out block
  pub charged : m.view.charged ≡ None
  pub own : m.view.own ≡ []
  pub paid : NoneBut (tree_of b.frame) m.view.paid

-- in at most so many moves the view turned so; where nobody else steps the block's frames are free
pub record Gives {T H : Type 0} (block_of : H → FrameBlock) (exact : ℕ → Type 0) (most : ℕ)
    (V : View → View → Type 0) (given : H) (old new : Mover T H) : Type 0 where
  pub keeps : KeepsOthers block_of (block_of given) old new
  pub counts : Counts exact most old new
  pub back : V old.view new.view
  pub sure : StaysSure old new
  pub knows : KnowsWords new
  pub alone_given : old.is_alone → WordsGive old.key old.words new.words (block_of given)
