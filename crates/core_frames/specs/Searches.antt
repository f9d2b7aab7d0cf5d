-- What the search, the give and their parts ask, and how they may end.
use Rattle.std.specs.Prelude.{◌≡◌, ℕ, ◌+◌, ◌^◌, ◌<◌, ◌≤◌, List, Option, Some}
use Rattle.std.specs.Prelude.{IfSome, IfNone, Result, IfOk, IfErr, Bool, true, false, nat_lt, slice_index}
use Rattle.frame_words.specs.Geometry.{huge_order}
use Rattle.frame_words.specs.declared.fault.TakeFault.{TakeFault}
use Rattle.frame_words.specs.declared.fault.TakeFault.TheVariants.{BadOrder, NoBlock, Contended}
use Rattle.frame_words.specs.Words.{rest_in}
use Rattle.frame_model.specs.declared.block.FrameBlock.{FrameBlock}
use Rattle.frame_model.specs.declared.view.View.{View}
use Rattle.frame_model.specs.Key.{tree_count}
use Rattle.frame_model.specs.Words.{local_place, IsRest}
use Rattle.frame_model.specs.View.{counted, IsIdle}
use Rattle.frame_core.specs.Mover.{Mover, Keeps, KeepsOthers, KnowsWords}
use Rattle.low_frames.specs.Bounds.{attempt}
use Rattle.low_frames.specs.Takes.{Counts, IsAsBefore, IsSure, StaysSure}
use Rattle.low_frames.specs.Alone.{Turns, WordsGive}
use Rattle.low_frames.specs.Outcomes.{TakesOut}
use Rattle.low_frames.specs.Parts.{Gets}
use Rattle.core_frames.specs.Bounds.{most_to_load, most_moves}
use Rattle.core_frames.specs.Search.{HasReservedSome, HasLentOne, IsBlockOf, Reserves}
use Rattle.core_frames.specs.Alone.{SameFrames, IsPassedBy, IsReserved, FindsNoBlock}

-- What they ask.

-- the memory has the core, and nothing is in flight
pub record MayBegin {T H : Type 0} (k : ℕ) (m : Mover T H) : Type 0 where
  pub core : k < m.key.cores
  pub idle : IsIdle m.view

-- and the order is one of blocks
pub record MaySearch {T H : Type 0} (k n : ℕ) (m : Mover T H) : Type 0 where
  pub core : k < m.key.cores
  pub order : n ≤ huge_order
  pub idle : IsIdle m.view

-- the memory has the tree, and nothing is in flight
pub record MayVisit {T H : Type 0} (t : ℕ) (m : Mover T H) : Type 0 where
  pub tree : t < tree_count m.key
  pub idle : IsIdle m.view

-- and it has the core
pub record MayVisitFor {T H : Type 0} (k t : ℕ) (m : Mover T H) : Type 0 where
  pub core : k < m.key.cores
  pub tree : t < tree_count m.key
  pub idle : IsIdle m.view

-- and a tree is tried only where it counts frames enough for a block of the order
pub record MaySearchTree {T H : Type 0} (k t n least : ℕ) (m : Mover T H) : Type 0 where
  pub core : k < m.key.cores
  pub tree : t < tree_count m.key
  pub order : n ≤ huge_order
  pub enough : 2 ^ n ≤ least
  pub idle : IsIdle m.view

-- and the trees from one on, up to another, are trees of the memory
pub record MaySearchTrees {T H : Type 0} (k n from to : ℕ) (m : Mover T H) : Type 0 where
  pub core : k < m.key.cores
  pub order : n ≤ huge_order
  pub begins : from ≤ to
  pub ends : to ≤ tree_count m.key
  pub idle : IsIdle m.view

-- n frames of the tree, all that are, are paid
pub record MayRefund {T H : Type 0} (k t n : ℕ) (m : Mover T H) : Type 0 where
  pub core : k < m.key.cores
  pub tree : t < tree_count m.key
  pub share : 0 < m.view.share
  pub paid : m.view.paid ≡ counted t n

-- the tree is being reserved, and n frames of it, all that are, are paid
pub record MayInstall {T H : Type 0} (k t n : ℕ) (m : Mover T H) : Type 0 where
  pub core : k < m.key.cores
  pub tree : t < tree_count m.key
  pub reserves : Reserves t n m.view

-- the memory has the core, nothing is in flight, and the block is out
pub record MayGiveBack {T H : Type 0} (k : ℕ) (block : H) (m : Mover T H) : Type 0 where
  pub core : k < m.key.cores
  pub idle : IsIdle m.view
  pub held : m.is_out block

-- How they may end.

-- at least so many moves were made, of at most so many, as far as counts are exact
abbrev pub HasMade : {T H : Type 0} → (ℕ → Type 0) → ℕ → ℕ → Mover T H → Mover T H → Type 0
HasMade exact least most old new =
    exact (old.view.moves + most) → old.view.moves + least ≤ new.view.moves

-- in at most so many moves the view turned so, and where nobody else steps the words
pub record Brings {T H : Type 0} (exact : ℕ → Type 0) (most : ℕ) (V : View → View → Type 0)
    (W : List ℕ → List ℕ → Type 0) (old new : Mover T H) : Type 0 where
  pub keeps : Keeps old new
  pub counts : Counts exact most old new
  pub sure : StaysSure old new
  pub view : V old.view new.view
  pub alone : old.is_alone → Turns W old.words new.words

-- where nobody else steps, words that were known are known, and as before
abbrev pub LeavesWords : {T H : Type 0} → Mover T H → Mover T H → Type 0
LeavesWords old new = old.is_alone → IfSome old.words (λ ws. new.words ≡ Some ws)

-- the words are known, and this one of them is so
abbrev pub IsKnown : {T H : Type 0} → ℕ → ℕ → Mover T H → Type 0
IsKnown place word m = (ws : List ℕ) × ((m.words ≡ Some ws) × (slice_index ws place ≡ word))

-- all is as before, each frame is held or free as before, and the local word of the core is this one
pub record LoadsOwn {T H : Type 0} (exact : ℕ → Type 0) (k word : ℕ) (old new : Mover T H)
    : Type 0 where
  pub brings : Brings exact most_to_load IsAsBefore (SameFrames old.key) old new
  pub seen : new.read (local_place new.key k) ≡ Some word
  pub known : IsSure old → IsKnown (local_place new.key k) word new
  pub rest : IsRest old.key (rest_in word)

-- an attempt to reserve the tree where it counts from so many to so many free frames: they are paid;
-- or all is as before, and where nobody else steps the tree was passed by
pub record TriesTree {T H : Type 0} (exact : ℕ → Type 0) (t least most : ℕ) (answer : Option ℕ)
    (old new : Mover T H) : Type 0 where
  pub gets : Gets exact attempt (HasReservedSome t least most) (IsReserved old.key t)
      (IsPassedBy old.key t least most) answer old new
  pub made : HasMade exact 1 attempt old new

-- no block was found in at least so many moves: all is as before, and where nobody else steps this
-- is so of the words before and after
pub record Misses {T H : Type 0} (exact : ℕ → Type 0) (least most : ℕ)
    (R : Option (List ℕ) → Option (List ℕ) → Type 0) (old new : Mover T H) : Type 0 where
  pub view : IsAsBefore old.view new.view
  pub made : HasMade exact least most old new
  pub alone : old.is_alone → R old.words new.words

-- a search for a block of the order in at most so many moves: one is out and lent; or it missed
pub record Searches {T H : Type 0} (block_of : H → FrameBlock) (exact : ℕ → Type 0)
    (least most n : ℕ) (R : Option (List ℕ) → Option (List ℕ) → Type 0) (answer : Option H)
    (old new : Mover T H) : Type 0 where
  pub keeps : Keeps old new
  pub counts : Counts exact most old new
  pub sure : StaysSure old new
  pub some : IfSome answer (λ held.
      TakesOut block_of (IsBlockOf old.key n) HasLentOne held old new)
  pub none : IfNone answer (Misses exact least most R old new)

-- what is known of losses is forgotten
abbrev pub cleared : {T H : Type 0} → Mover T H → Mover T H
cleared m = record m { missed = false }

-- each tree was looked at and no block of the order found: by the drain no frame changed, and where
-- nobody else steps none is free; and an exchange was lost in this call, or none was
pub record FindsNoneBy {T H : Type 0} (exact : ℕ → Type 0) (n : ℕ) (contended : Bool)
    (old new : Mover T H) : Type 0 where
  pub order : n ≤ huge_order
  pub lost : exact (old.view.lost + most_moves old.key)
      → nat_lt old.view.lost new.view.lost ≡ contended
  pub missed : new.missed ≡ contended
  pub misses : Misses exact (tree_count old.key) (most_moves old.key)
      (Turns (FindsNoBlock old.key n)) old new

-- no move was made
pub record IsUntouched {T H : Type 0} (old new : Mover T H) : Type 0 where
  pub view : new.view ≡ old.view
  pub missed : new.missed ≡ old.missed
  pub reads : new.read ≡ old.read
  pub words : new.words ≡ old.words

-- why a take of an order is refused
abbrev pub Refuses : {T H : Type 0} → (ℕ → Type 0) → ℕ → TakeFault → Mover T H → Mover T H → Type 0
Refuses exact n BadOrder old new = (huge_order < n) × IsUntouched old new
Refuses exact n NoBlock old new = FindsNoneBy exact n false old new
Refuses exact n Contended old new = FindsNoneBy exact n true old new

-- a take of a block of the order: one is out and lent; or it is refused; who is sure of the words
-- loses no exchange
pub record TakesBy {T H : Type 0} (block_of : H → FrameBlock) (exact : ℕ → Type 0) (n : ℕ)
    (answer : Result H TakeFault) (old new : Mover T H) : Type 0 where
  pub keeps : Keeps old new
  pub counts : n ≤ huge_order → Counts exact (most_moves old.key) (cleared old) new
  pub sure : n ≤ huge_order → StaysSure (cleared old) new
  pub ok : IfOk answer (λ held.
      TakesOut block_of (IsBlockOf old.key n) HasLentOne held old new)
  pub err : IfErr answer (λ fault. Refuses exact n fault old new)

-- a give of the block in at most so many moves, which turns the view so; where nobody else steps its
-- frames are free, and every other frame is as before
pub record GivesBy {T H : Type 0} (block_of : H → FrameBlock) (exact : ℕ → Type 0) (most : ℕ)
    (V : View → View → Type 0) (given : H) (old new : Mover T H) : Type 0 where
  pub keeps : KeepsOthers block_of (block_of given) old new
  pub counts : Counts exact most old new
  pub back : V old.view new.view
  pub knows : old.is_alone → KnowsWords new
  pub alone_given : old.is_alone → WordsGive old.key old.words new.words (block_of given)
