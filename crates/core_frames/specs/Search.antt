-- What the search for a block, and a give, leave of the own view step by step.
use Rattle.std.specs.Prelude.{◌≡◌, ℕ, pos, ◌+ℤ◌, ◌-ℤ◌, ◌<◌, ◌≤◌, Some, None, Option, Bool, MatchBool}
use Rattle.frame_words.specs.Geometry.{tree_frames}
use Rattle.frame_model.specs.declared.block.FrameBlock.{FrameBlock}
use Rattle.frame_model.specs.declared.key.Key.{Key}
use Rattle.frame_model.specs.declared.view.View.{View}
use Rattle.frame_model.specs.Key.{tree_count}
use Rattle.frame_model.specs.Block.{IsBlock}
use Rattle.frame_model.specs.View.{counted}
use Rattle.low_frames.specs.Takes.{IsAsBefore}

-- the view is as before, but for its counts, and n frames of the tree, all that are, are paid
abbrev pub HasPaid : ℕ → ℕ → View → View → Type 0
HasPaid tree n v w = w ≡ record v { paid = counted tree n; moves = w.moves; lost = w.lost }

-- so many frames of the tree are paid, where an answer tells how many; else the view is as before
abbrev pub HasPaidAll : ℕ → Option ℕ → View → View → Type 0
HasPaidAll tree (Some free) v w = HasPaid tree free v w
HasPaidAll tree None v w = IsAsBefore v w

-- n frames are paid of a tree of the memory, where an answer tells which; else the view is as before
abbrev pub HasPaidOf : Key → ℕ → Option ℕ → View → View → Type 0
HasPaidOf key n (Some tree) v w = (tree < tree_count key) × HasPaid tree n v w
HasPaidOf key n None v w = IsAsBefore v w

-- the view is as before, but for its counts, and it reserves the tree, of which n frames, all that are, are paid
abbrev pub HasReserved : ℕ → ℕ → View → View → Type 0
HasReserved tree n v w = w ≡ record v {
  paid = counted tree n;
  reserving = Some tree;
  moves = w.moves;
  lost = w.lost;
}

-- and n lies between one number and another, and is no more than a tree has
pub record HasReservedSome (tree least most n : ℕ) (v w : View) : Type 0 where
  pub enough : least ≤ n
  pub not_more : n ≤ most
  pub few : n ≤ tree_frames
  pub view : HasReserved tree n v w

-- the view is as before, but for its counts, and nothing is paid
abbrev pub HasRefunded : View → View → Type 0
HasRefunded v w = w ≡ record v { paid = None; moves = w.moves; lost = w.lost }

-- nothing is paid where this was done; else the view is as before
abbrev pub HasRefundedIf : Bool → View → View → Type 0
HasRefundedIf made v w = MatchBool made (HasRefunded v w) (IsAsBefore v w)

-- the view is as before, but for its counts, and nothing is paid or being reserved
abbrev pub HasPutDown : View → View → Type 0
HasPutDown v w = w ≡ record v { paid = None; reserving = None; moves = w.moves; lost = w.lost }

-- the view is as before, but for its counts, and one block more is lent
abbrev pub HasLentOne : View → View → Type 0
HasLentOne v w = w ≡ record v { lent = v.lent +ℤ pos 1; moves = w.moves; lost = w.lost }

-- the view is as before, but for its counts, and one block less is lent
abbrev pub HasTakenOne : View → View → Type 0
HasTakenOne v w = w ≡ record v { lent = v.lent -ℤ pos 1; moves = w.moves; lost = w.lost }

-- a block of this order
pub record IsBlockOf (key : Key) (order : ℕ) (b : FrameBlock) : Type 0 where
  pub is_block : IsBlock key b
  pub has_order : b.order ≡ order

-- the view reserves the tree, of which n frames, all that are, are paid, and no more than a tree has
pub record Reserves (tree n : ℕ) (v : View) : Type 0 where
  pub share : 0 < v.share
  pub paid : v.paid ≡ counted tree n
  pub reserving : v.reserving ≡ Some tree
  pub few : n ≤ tree_frames
