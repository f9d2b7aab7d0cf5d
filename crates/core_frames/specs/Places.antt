-- Takes of just one block: what they ask, and how they may end.
use Rattle.std.specs.Prelude.{◌≡◌, ◌≢◌, ◌⊎◌, ℕ, ◌+◌, ◌%◌, ◌^◌, ◌<◌, ◌≤◌, List, Option, Bool, true, false, MatchBool}
use Rattle.std.specs.Prelude.{Result, IfOk, IfErr, IfSome, IfNone, nat_lt}
use Rattle.frame_words.specs.Geometry.{huge_order}
use Rattle.frame_words.specs.declared.fault.TakeFault.{TakeFault}
use Rattle.frame_words.specs.declared.fault.TakeFault.TheVariants.{BadOrder, NoBlock, Contended}
use Rattle.frame_model.specs.declared.block.FrameBlock.{FrameBlock}
use Rattle.frame_model.specs.declared.key.Key.{Key}
use Rattle.frame_model.specs.declared.view.View.{View}
use Rattle.frame_model.specs.View.{IsIdle}
use Rattle.frame_model.specs.Words.{tree_free_of, rest_of, is_on}
use Rattle.frame_core.specs.Mover.{Mover, Keeps}
use Rattle.frame_table.specs.Seats.{block_in}
use Rattle.frame_table.specs.declared.block.Block.{Block}
use Rattle.low_frames.specs.Takes.{Counts, IsAsBefore, StaysSure}
use Rattle.low_frames.specs.Alone.{IsFreeIn, Turns}
use Rattle.low_frames.specs.Outcomes.{TakesOut}
use Rattle.core_frames.specs.declared.shared.allocator.Allocator.{Allocator}
use Rattle.core_frames.specs.declared.shared.allocator.Core.{Core}
use Rattle.core_frames.specs.Bounds.{most_to_take_at}
use Rattle.core_frames.specs.Cores.{memory_of, view_in, kept_by, lent_by, moves_by, losses_by, known_by}
use Rattle.core_frames.specs.Cores.{StepsAlone, IsSureOf, KeepsHabit}
use Rattle.core_frames.specs.Alone.{SameFrames}
use Rattle.core_frames.specs.Search.{HasPaid, HasLentOne}
use Rattle.core_frames.specs.Searches.{Misses, IsUntouched, cleared}
use Rattle.core_frames.specs.Uses.{HasTaken}

-- Which blocks there are.

-- a block of an order up to 9 that is aligned to its size and ends inside a memory of so many frames
pub record LiesWithin (frames : ℕ) (b : FrameBlock) : Type 0 where
  pub order : b.order ≤ huge_order
  pub aligned : b.frame % 2 ^ b.order ≡ 0
  pub inside : b.frame + 2 ^ b.order ≤ frames

-- the memory has the block
abbrev pub HasSuchBlock : Key → FrameBlock → Type 0
HasSuchBlock key b = LiesWithin key.frames b

-- the memory has the core and the block, and nothing is in flight
pub record MayTakePlace {T H : Type 0} (k : ℕ) (b : FrameBlock) (m : Mover T H) : Type 0 where
  pub core : k < m.key.cores
  pub has : HasSuchBlock m.key b
  pub idle : IsIdle m.view

-- What the parts find and leave where nobody else steps.

-- no core has a reservation of the tree
abbrev pub NothingRestsOn : Key → ℕ → List ℕ → Type 0
NothingRestsOn key tree words = (core : ℕ) → core < key.cores → is_on tree (rest_of key words core) ≡ 0

-- each frame is held or free as before; the core has no reservation of the tree, and those of others
-- stay
pub record IsDrainedFor (key : Key) (tree core : ℕ) (old new : List ℕ) : Type 0 where
  pub frames : SameFrames key old new
  pub nothing_rests : is_on tree (rest_of key new core) ≡ 0
  pub others : (other : ℕ) → other < key.cores → other ≢ core → rest_of key new other ≡ rest_of key old other

-- each frame is held or free as before, and no core has a reservation of the tree
pub record IsTreeDrained (key : Key) (tree : ℕ) (old new : List ℕ) : Type 0 where
  pub frames : SameFrames key old new
  pub nothing_rests : NothingRestsOn key tree new

-- the word of the tree counts fewer than n free frames
abbrev pub CountsFewer : Key → ℕ → ℕ → List ℕ → Type 0
CountsFewer key tree n words = tree_free_of key words tree < n

-- each frame is held or free as before, no core has a reservation of the tree, and its word counts
-- fewer than n free frames
pub record HasTooFewOn (key : Key) (tree n : ℕ) (old new : List ℕ) : Type 0 where
  pub frames : SameFrames key old new
  pub nothing_rests : NothingRestsOn key tree new
  pub few : CountsFewer key tree n new

-- each frame is held or free as before, and the block is not free
pub record FindsHeld (key : Key) (b : FrameBlock) (old new : List ℕ) : Type 0 where
  pub frames : SameFrames key old new
  pub held : ¬ IsFreeIn key new b

-- How the parts may end.

-- n frames of the tree, and no others, are paid where this was done; else the view is as before
abbrev pub HasPaidIf : ℕ → ℕ → Bool → View → View → Type 0
HasPaidIf tree n made v w = MatchBool made (HasPaid tree n v w) (IsAsBefore v w)

-- a take of just this block in at most so many moves: it is out and lent; or all is as before, a move
-- was made, and where nobody else steps the block is not free
pub record TakesPlace {T H : Type 0} (block_of : H → FrameBlock) (exact : ℕ → Type 0) (most : ℕ)
    (b : FrameBlock) (answer : Option H) (old new : Mover T H) : Type 0 where
  pub keeps : Keeps old new
  pub counts : Counts exact most old new
  pub sure : StaysSure old new
  pub some : IfSome answer (λ held. TakesOut block_of (λ c. c ≡ b) HasLentOne held old new)
  pub none : IfNone answer (Misses exact 1 most (Turns (FindsHeld old.key b)) old new)

-- the memory has the block, which was looked at and not taken; and an exchange was lost in this call, or
-- none was
pub record FindsHeldBy {T H : Type 0} (exact : ℕ → Type 0) (b : FrameBlock) (contended : Bool)
    (old new : Mover T H) : Type 0 where
  pub has : HasSuchBlock old.key b
  pub lost : exact (old.view.lost + most_to_take_at old.key)
      → nat_lt old.view.lost new.view.lost ≡ contended
  pub missed : new.missed ≡ contended
  pub misses : Misses exact 1 (most_to_take_at old.key) (Turns (FindsHeld old.key b)) old new

-- its order is one of blocks, but the memory has no such block; and no move was made
pub record FindsNoSuchBlock {T H : Type 0} (b : FrameBlock) (old new : Mover T H) : Type 0 where
  pub order : b.order ≤ huge_order
  pub has_none : ¬ HasSuchBlock old.key b
  pub untouched : IsUntouched old new

-- why a take of just this block is refused
abbrev pub RefusesAt : {T H : Type 0} → (ℕ → Type 0) → FrameBlock → TakeFault → Mover T H → Mover T H → Type 0
RefusesAt exact b BadOrder old new = (huge_order < b.order) × IsUntouched old new
RefusesAt exact b NoBlock old new = FindsNoSuchBlock b old new ⊎ FindsHeldBy exact b false old new
RefusesAt exact b Contended old new = FindsHeldBy exact b true old new

-- a take of just this block: it is out and lent; or it is refused; who is sure of the words loses no
-- exchange
pub record TakesAtBy {T H : Type 0} (block_of : H → FrameBlock) (exact : ℕ → Type 0) (b : FrameBlock)
    (answer : Result H TakeFault) (old new : Mover T H) : Type 0 where
  pub keeps : Keeps old new
  pub counts : HasSuchBlock old.key b → Counts exact (most_to_take_at old.key) (cleared old) new
  pub sure : HasSuchBlock old.key b → StaysSure (cleared old) new
  pub ok : IfOk answer (λ held. TakesOut block_of (λ c. c ≡ b) HasLentOne held old new)
  pub err : IfErr answer (λ fault. RefusesAt exact b fault old new)

-- What a core is told.

-- the block's order is one of blocks, but the memory has no such block; and no move was made
pub record HasNoPlace (a : Allocator) (b : FrameBlock) (c d : Core) : Type 0 where
  pub order : b.order ≤ huge_order
  pub has_none : ¬ HasSuchBlock (memory_of a) b
  pub view : view_in d ≡ view_in c

-- the memory has the block, and a move was made; where nobody else steps each frame is held or free as
-- before, and the block is not free
pub record WasHeldAt (a : Allocator) (b : FrameBlock) (c d : Core) : Type 0 where
  pub has : HasSuchBlock (memory_of a) b
  pub moved : moves_by c < moves_by d
  pub alone : StepsAlone a c → Turns (FindsHeld (memory_of a) b) (known_by c) (known_by d)

-- why a take of just this block was refused: its order is none of blocks, or the memory has no such block,
-- and no move was made; or it was looked at, and no exchange was lost in this call, or one was. Who knows
-- the words where nobody else steps loses no exchange.
abbrev pub IsRefusedAt : Allocator → FrameBlock → Core → Core → TakeFault → Type 0
IsRefusedAt a b c d BadOrder = (huge_order < b.order) × (view_in d ≡ view_in c)
IsRefusedAt a b c d NoBlock =
    HasNoPlace a b c d ⊎ (WasHeldAt a b c d × (losses_by d ≡ losses_by c))
IsRefusedAt a b c d Contended =
    WasHeldAt a b c d × (losses_by c < losses_by d) × (¬ IsSureOf a c)

-- a take of just this block: it is out and lent, or it is refused and nothing is; what the core keeps, and
-- what it remembers, is as before
pub record TakesPlaceThrough (a : Allocator) (b : FrameBlock) (answer : Result Block TakeFault)
    (c d : Core) : Type 0 where
  pub kept : kept_by d ≡ kept_by c
  pub same_habit : KeepsHabit c d
  pub ok : IfOk answer (λ held. HasTaken a b.order held c d × (block_in held ≡ b))
  pub err : IfErr answer (λ fault. IsRefusedAt a b c d fault × (lent_by d ≡ lent_by c))
