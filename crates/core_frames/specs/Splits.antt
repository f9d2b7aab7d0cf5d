-- What a split asks and leaves.
use Rattle.std.specs.Prelude.{◌≡◌, ℕ, ℤ, pos, ◌+◌, ◌-◌, ◌*◌, ◌^◌, ◌+ℤ◌, ◌-ℤ◌, ◌<◌, ◌≤◌, List, [], ◌∷◌, Result, IfOk, IfErr}
use Rattle.std.specs.List.{All}
use Rattle.frame_words.specs.Geometry.{child_frames, huge_order}
use Rattle.frame_words.specs.Runs.{four_order}
use Rattle.frame_model.specs.declared.block.FrameBlock.{FrameBlock}
use Rattle.frame_model.specs.declared.key.Key.{Key}
use Rattle.frame_model.specs.declared.view.View.{View}
use Rattle.frame_model.specs.Key.{frame_count}
use Rattle.frame_model.specs.Block.{block, IsBlock, small_at, whole_at, smalls, wholes}
use Rattle.frame_model.specs.Words.{bit_of, huge_of}
use Rattle.frame_model.specs.View.{IsIdle}
use Rattle.frame_core.specs.Mover.{Mover, Keeps, KeepsOthers, KnowsWords}
use Rattle.frame_model.specs.Report.{held_at}
use Rattle.low_frames.specs.Takes.{Counts}
use Rattle.low_frames.specs.Alone.{Turns}
use Rattle.core_frames.specs.Bounds.{most_to_bring_in, most_in_split}
use Rattle.core_frames.specs.Search.{HasLentOne}
use Rattle.core_frames.specs.Searches.{Brings}

-- the two blocks are the halves of one that has halves, the lower first
pub record AreHalves (b first second : FrameBlock) : Type 0 where
  pub some : 0 < b.order
  pub lower : first ≡ block b.frame (b.order - 1)
  pub upper : second ≡ block (b.frame + 2 ^ (b.order - 1)) (b.order - 1)

-- every frame is held or free as before
abbrev pub HoldsSame : Key → List ℕ → List ℕ → Type 0
HoldsSame key ws us = (x : ℕ) → x < frame_count key → held_at key us x ≡ held_at key ws x

-- every frame is held or free as before; where the bits or the flag of the block held it, those of
-- its halves do
pub record HoldsHalves (key : Key) (b first second : FrameBlock) (old new : List ℕ) : Type 0 where
  pub frames : HoldsSame key old new
  pub bits : (x : ℕ) → x < frame_count key
      → bit_of key new x + small_at x b ≡ bit_of key old x + (small_at x first + small_at x second)
  pub flags : (c : ℕ) → c < key.children
      → huge_of new c + whole_at c b ≡ huge_of old c + (whole_at c first + whole_at c second)

-- nothing is in flight, and the block is out
pub record MaySplit {T H : Type 0} (block : H) (m : Mover T H) : Type 0 where
  pub idle : IsIdle m.view
  pub held : m.is_out block

-- the halves of the block are out in its place, and one block more is lent; where nobody else steps
-- its frames are held as theirs, and every other as before, if the words are known after it
pub record HandsOutHalves {T H : Type 0} (block_of : H → FrameBlock) (b first second : H)
    (old new : Mover T H) : Type 0 where
  pub are_halves : AreHalves (block_of b) (block_of first) (block_of second)
  pub first_out : new.is_out first
  pub second_out : new.is_out second
  pub view : HasLentOne old.view new.view
  pub alone : old.is_alone → KnowsWords new
      → Turns (HoldsHalves old.key (block_of b) (block_of first) (block_of second)) old.words new.words

-- a split: the halves are out; or the block, which has none, was handed back
pub record SplitsBy {T H : Type 0} (block_of : H → FrameBlock) (exact : ℕ → Type 0) (b : H)
    (answer : Result (H × H) H) (old new : Mover T H) : Type 0 where
  pub keeps : KeepsOthers block_of (block_of b) old new
  pub counts : Counts exact most_in_split old new
  pub ok : IfOk answer (λ r. HandsOutHalves block_of b r.0 r.1 old new)
  pub err : IfErr answer (λ same. (same ≡ b) × ((block_of b).order ≡ 0))

-- Its parts.

-- every frame is held or free as before, and the block, if it is a child as a whole, has no flag
pub record LosesFlag (key : Key) (b : FrameBlock) (old new : List ℕ) : Type 0 where
  pub frames : HoldsSame key old new
  pub flags : (c : ℕ) → c < key.children → huge_of new c + whole_at c b ≡ huge_of old c

-- the view is as before, but for its counts, and for what is in flight, filled and lent
abbrev pub Bears : View → List FrameBlock → List ℕ → ℤ → View → Type 0
Bears v own filled lent w = w ≡ record v {
  own = own;
  filled = filled;
  lent = lent;
  moves = w.moves;
  lost = w.lost;
}

-- the blocks are, frame by frame, a block of this order up to 8 and the one behind it
pub record MakeTwo (key : Key) (frame order : ℕ) (blocks : List FrameBlock) : Type 0 where
  pub small : order ≤ four_order
  pub lower : IsBlock key (block frame order)
  pub upper : IsBlock key (block (frame + 2 ^ order) order)
  pub are_blocks : All (IsBlock key) blocks
  pub smalls : (x : ℕ) → smalls x blocks
      ≡ small_at x (block frame order) + small_at x (block (frame + 2 ^ order) order)
  pub wholes : (c : ℕ) → wholes c blocks ≡ 0

-- nothing is in flight, and the block is out and has halves
pub record MayBringIn {T H : Type 0} (block_of : H → FrameBlock) (block : H) (m : Mover T H)
    : Type 0 where
  pub idle : IsIdle m.view
  pub held : m.is_out block
  pub some : 0 < (block_of block).order

-- what is in flight then are frames of the block that can leave by halves
pub record BringsIn {T H : Type 0} (block_of : H → FrameBlock) (exact : ℕ → Type 0) (b : H)
    (old new : Mover T H) : Type 0 where
  pub keeps : KeepsOthers block_of (block_of b) old new
  pub counts : Counts exact most_to_bring_in old new
  pub view : Bears old.view new.view.own old.view.filled (old.view.lent -ℤ pos 1) new.view
  pub two : MakeTwo old.key (block_of b).frame ((block_of b).order - 1) new.view.own
  pub alone : old.is_alone → Turns (LosesFlag old.key (block_of b)) old.recalled new.recalled

-- the child as a whole is all that is in flight
pub record MayBreakUp {T H : Type 0} (c : ℕ) (m : Mover T H) : Type 0 where
  pub child : c < m.key.children
  pub share : 0 < m.view.share
  pub own : m.view.own ≡ block (child_frames * c) huge_order ∷ []

-- in at most so many moves the view turned so, and where nobody else steps the words that were recalled
pub record TurnsRecalled {T H : Type 0} (exact : ℕ → Type 0) (most : ℕ) (V : View → View → Type 0)
    (W : List ℕ → List ℕ → Type 0) (old new : Mover T H) : Type 0 where
  pub keeps : Keeps old new
  pub counts : Counts exact most old new
  pub view : V old.view new.view
  pub alone : old.is_alone → Turns W old.recalled new.recalled

-- the view is as before, but for its counts, and its huge frame is two blocks of order 8
abbrev pub HasBrokenUp : ℕ → View → View → Type 0
HasBrokenUp c v w = Bears v (block (child_frames * c) four_order
    ∷ block (child_frames * c + 2 ^ four_order) four_order ∷ []) [] v.lent w

-- all that is in flight are a block of this order and the one behind it
pub record MayHandOutTwo {T H : Type 0} (frame order : ℕ) (m : Mover T H) : Type 0 where
  pub share : 0 < m.view.share
  pub two : MakeTwo m.key frame order m.view.own

-- the view is as before, but for its counts, nothing is in flight, and two blocks more are lent
abbrev pub HasLentTwo : View → View → Type 0
HasLentTwo v w = Bears v [] v.filled (v.lent +ℤ pos 1 +ℤ pos 1) w

-- the words are as they were
abbrev pub SameWords : List ℕ → List ℕ → Type 0
SameWords old new = new ≡ old

-- both are out, and no word has changed
pub record HandsOutTwo {T H : Type 0} (block_of : H → FrameBlock) (exact : ℕ → Type 0)
    (frame order : ℕ) (first second : H) (old new : Mover T H) : Type 0 where
  pub brings : Brings exact 2 HasLentTwo SameWords old new
  pub recalled : old.is_alone → new.recalled ≡ old.recalled
  pub lower : block_of first ≡ block frame order
  pub upper : block_of second ≡ block (frame + 2 ^ order) order
  pub first_out : new.is_out first
  pub second_out : new.is_out second
