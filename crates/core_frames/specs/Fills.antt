-- Takes of several single frames from the own reservation.
use Rattle.std.specs.Prelude.{◌≡◌, ℕ, pos, ◌+◌, ◌+ℤ◌, ◌*◌, ◌<◌, ◌≤◌, List, ◌++◌, length, map, Option, Some, IfSome, IfNone}
use Rattle.std.specs.List.{All}
use Rattle.frame_words.specs.Geometry.{tree_frames}
use Rattle.frame_model.specs.Words.{rest_of}
use Rattle.frame_model.specs.declared.block.FrameBlock.{FrameBlock}
use Rattle.frame_model.specs.declared.key.Key.{Key}
use Rattle.frame_model.specs.declared.view.View.{View}
use Rattle.frame_model.specs.Key.{tree_count}
use Rattle.frame_model.specs.Holding.{IsFreeBlock}
use Rattle.frame_core.specs.Mover.{Mover, LiesInside, Keeps}
use Rattle.low_frames.specs.Bounds.{attempt}
use Rattle.low_frames.specs.Outcomes.{HasNoBootFrame}
use Rattle.low_frames.specs.Singles.{TakesSingles}
use Rattle.low_frames.specs.SinglesAlone.{AreHeld, HoldsMoreOf}
use Rattle.low_frames.specs.Alone.{Turns, FindsOf}
use Rattle.low_frames.specs.Takes.{Counts, IsAsBefore}
use Rattle.frame_table.specs.Seats.{block_in}
use Rattle.frame_table.specs.declared.block.Block.{Block}
use Rattle.core_frames.specs.Bounds.{most_in_fill}
use Rattle.core_frames.specs.Search.{HasPaid}
use Rattle.core_frames.specs.Alone.{SameFrames}
use Rattle.core_frames.specs.Cores.{memory_of, number_of, kept_by, lent_by, moves_by, known_by, StepsAlone, IsOutOf}
use Rattle.core_frames.specs.declared.shared.allocator.Allocator.{Allocator}
use Rattle.core_frames.specs.declared.shared.allocator.Core.{Core}

-- up to n frames of a tree of the memory, all that are, are paid
pub record HasPaidSome (key : Key) (n tree paid : ℕ) (v w : View) : Type 0 where
  pub tree_inside : tree < tree_count key
  pub few : paid ≤ n
  pub view : HasPaid tree paid v w

-- each frame is held or free as before, and of those that rested with the core, in this tree, n are
-- paid, or all where they were fewer
pub record PaysOf (key : Key) (core n tree paid : ℕ) (old new : List ℕ) : Type 0 where
  pub frames : SameFrames key old new
  pub rested : ℕ
  pub rest : rest_of key old core ≡ Some (tree, rested)
  pub all : paid < n → rested ≤ paid

-- none of n frames can be paid of what rests with the core
abbrev pub HasNoneToPay : Key → ℕ → ℕ → List ℕ → Type 0
HasNoneToPay key core n words = IfSome (rest_of key words core) (λ rest. 0 < n → rest.1 ≡ 0)

-- they are paid where an answer tells of which tree and how many; else the view is as before, and where
-- nobody else steps none rest
pub record PaysSome {T H : Type 0} (exact : ℕ → Type 0) (core n : ℕ) (answer : Option (ℕ × ℕ))
    (old new : Mover T H) : Type 0 where
  pub keeps : Keeps old new
  pub counts : Counts exact attempt old new
  pub some : IfSome answer (λ r. HasPaidSome old.key n r.0 r.1 old.view new.view)
  pub none : IfNone answer (IsAsBefore old.view new.view)
  pub alone_some : old.is_alone
      → IfSome answer (λ r. Turns (PaysOf old.key core n r.0 r.1) old.words new.words)
  pub alone_none : old.is_alone
      → IfNone answer (FindsOf (HasNoneToPay old.key core n) old.words new.words)

-- Just these frames were taken, k of them. Where they are fewer than n, and than rested with the core, each
-- frame of the tree that it has reserved is held.
pub record FillsFrom (key : Key) (core k n : ℕ) (blocks : List FrameBlock) (old new : List ℕ) : Type 0 where
  pub holds : HoldsMoreOf key blocks old new
  pub none_left : IfSome (rest_of key old core) (λ rest. k < n → k < rest.1
      → AreHeld key (tree_frames * rest.0) tree_frames new)

-- the view is as before, but for its counts, and n blocks more are lent
abbrev pub HasLentMany : ℕ → View → View → Type 0
HasLentMany n v w = w ≡ record v { lent = v.lent +ℤ pos n; moves = w.moves; lost = w.lost }

-- k single frames, of one tree, are out and lent, behind the others
pub record TakesMany {T H : Type 0} (block_of : H → FrameBlock) (exact : ℕ → Type 0) (core most k n : ℕ)
    (olds news : List H) (old new : Mover T H) : Type 0 where
  pub tree : ℕ
  pub takes : TakesSingles block_of exact tree most (HasLentMany k) (FillsFrom old.key core k n) k olds
      news old new

-- a single frame is out that was not kept, held back or past the end
pub record IsMore (a : Allocator) (kept : List FrameBlock) (b : Block) : Type 0 where
  pub is_out : IsOutOf a b
  pub order : (block_in b).order ≡ 0
  pub apart : IsFreeBlock kept (block_in b)
  pub no_boot_frame : HasNoBootFrame (memory_of a) (block_in b)
  pub inside : LiesInside (memory_of a) (block_in b)

-- k single frames are out and lent, behind the others; what the core keeps, and what it remembers of
-- its gives, is as before. Where nobody else steps, they are fewer than n, and than rested with the core, only
-- if each frame of its tree is held.
pub record HasTakenMore (a : Allocator) (k n : ℕ) (olds news : List Block) (c d : Core) : Type 0 where
  pub kept : kept_by d ≡ kept_by c
  pub same_habit : d.habit ≡ c.habit
  pub got : List Block
  pub items : news ≡ olds ++ got
  pub count : length got ≡ k
  pub each : All (IsMore a (kept_by c)) got
  pub lent : lent_by d ≡ lent_by c +ℤ pos k
  pub few : moves_by d ≤ moves_by c + most_in_fill k
  pub alone : StepsAlone a c → Turns (FillsFrom (memory_of a) (number_of c) k n (map block_in got))
      (known_by c) (known_by d)
