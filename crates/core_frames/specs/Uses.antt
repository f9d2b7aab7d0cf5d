-- What takes, gives and splits through a core leave.
use Rattle.std.specs.Prelude.{◌≡◌, ℕ, pos, ◌+◌, ◌+ℤ◌, ◌-ℤ◌, ◌<◌, ◌≤◌, List, Some, Result, IfOk, IfErr}
use Rattle.frame_words.specs.Geometry.{huge_order}
use Rattle.frame_words.specs.declared.fault.Fault.{Fault}
use Rattle.frame_words.specs.declared.fault.Fault.TheVariants as fault
use Rattle.frame_words.specs.declared.fault.TakeFault.{TakeFault}
use Rattle.frame_words.specs.declared.fault.TakeFault.TheVariants.{BadOrder, NoBlock, Contended}
use Rattle.frame_model.specs.declared.block.FrameBlock.{FrameBlock}
use Rattle.frame_model.specs.declared.view.View.{View}
use Rattle.frame_model.specs.Key.{tree_count}
use Rattle.frame_model.specs.Holding.{IsFreeBlock}
use Rattle.frame_core.specs.Mover.{LiesInside}
use Rattle.low_frames.specs.Outcomes.{HasNoBootFrame}
use Rattle.frame_table.specs.Seats.{block_in}
use Rattle.frame_table.specs.declared.block.Block.{Block}
use Rattle.core_frames.specs.declared.shared.allocator.Allocator.{Allocator}
use Rattle.core_frames.specs.declared.shared.allocator.Core.{Core}
use Rattle.core_frames.specs.Bounds.{most_in_give}
use Rattle.core_frames.specs.Cores.{memory_of, view_in, kept_by, lent_by, moves_by, losses_by, known_by, StepsAlone, IsSureOf, IsOutOf, StaysCoreOf}
use Rattle.core_frames.specs.Alone.{FindsNoBlock}
use Rattle.low_frames.specs.Alone.{Turns, HoldsMore, WordsTake, WordsGive}
use Rattle.core_frames.specs.Splits.{AreHalves}
use Rattle.core_frames.specs.Joins.{AreBuddies}

-- a block of the order is out, none of whose frames the core keeps, the opening held back or is past
-- the end, and one block more is lent; where nobody else steps it was free
pub record HasTaken (a : Allocator) (n : ℕ) (b : Block) (c d : Core) : Type 0 where
  pub is_out : IsOutOf a b
  pub order : (block_in b).order ≡ n
  pub apart : IsFreeBlock (kept_by c) (block_in b)
  pub no_boot_frame : HasNoBootFrame (memory_of a) (block_in b)
  pub inside : LiesInside (memory_of a) (block_in b)
  pub lent : lent_by d ≡ lent_by c +ℤ pos 1
  pub alone : StepsAlone a c → WordsTake (memory_of a) (known_by c) (known_by d) (block_in b)

-- at least as many moves were made as the memory has trees, for an order of blocks
pub record HasMovedForEach (a : Allocator) (n : ℕ) (c d : Core) : Type 0 where
  pub order : n ≤ huge_order
  pub moved : moves_by c + tree_count (memory_of a) ≤ moves_by d

-- why a take of an order was refused: there is none of that order, and no move was made; or a move
-- was made for each tree, and no exchange was lost in this call, or one was. Where nobody else steps
-- no block of the order is free, and who knows the words too loses no exchange.
abbrev pub IsRefusedFor : Allocator → ℕ → Core → Core → TakeFault → Type 0
IsRefusedFor a n c d BadOrder = (huge_order < n) × (view_in d ≡ view_in c)
IsRefusedFor a n c d NoBlock =
    HasMovedForEach a n c d × (losses_by d ≡ losses_by c)
    × (StepsAlone a c → Turns (FindsNoBlock (memory_of a) n) (known_by c) (known_by d))
IsRefusedFor a n c d Contended =
    HasMovedForEach a n c d × (losses_by c < losses_by d) × (¬ IsSureOf a c)

-- why a take at a desk was refused: as the allocator's is; lack of memory comes before any step
abbrev pub IsRefusedAtDesk : Allocator → ℕ → Core → Core → Fault → Type 0
IsRefusedAtDesk a n c d fault.BadOrder = (huge_order < n) × (d ≡ c)
IsRefusedAtDesk a n c d fault.NoMemory = (n ≤ huge_order) × (d ≡ c)
IsRefusedAtDesk a n c d fault.NoBlock =
    HasMovedForEach a n c d × (losses_by d ≡ losses_by c)
    × (StepsAlone a c → Turns (FindsNoBlock (memory_of a) n) (known_by c) (known_by d))
IsRefusedAtDesk a n c d fault.Contended =
    HasMovedForEach a n c d × (losses_by c < losses_by d) × (¬ IsSureOf a c)
IsRefusedAtDesk a n c d _ = ⊥

-- the core lends as many blocks as before, and made at most so many moves
pub record LendsAsMany (most : ℕ) (c d : Core) : Type 0 where
  pub lent : lent_by d ≡ lent_by c
  pub moves : moves_by d ≤ moves_by c + most

-- a take of a block of the order: one is out and lent, or it is refused and nothing is; what the core
-- keeps, and what it remembers of its gives, is as before
pub record TakesThrough (a : Allocator) (n : ℕ) (answer : Result Block TakeFault) (c d : Core)
    : Type 0 where
  pub kept : kept_by d ≡ kept_by c
  pub same_gives : d.habit.gives ≡ c.habit.gives
  pub ok : IfOk answer (λ b. HasTaken a n b c d)
  pub err : IfErr answer (λ fault. IsRefusedFor a n c d fault × (lent_by d ≡ lent_by c))

-- one block less is lent, and what the core keeps is as before
pub record HasGiven (c d : Core) : Type 0 where
  pub kept : kept_by d ≡ kept_by c
  pub lent : lent_by d ≡ lent_by c -ℤ pos 1

-- where nobody else steps, the frames of the block, held before, are free; every other is as before
abbrev pub GivesAlone : Allocator → FrameBlock → Core → Core → Type 0
GivesAlone a b c d = StepsAlone a c → WordsGive (memory_of a) (known_by c) (known_by d) b

-- by such a give of a core that knew the words the block became free, and no other bit or flag was turned
abbrev pub GivesFreeTheirBlock : Type 0
GivesFreeTheirBlock = (a : Allocator) (b : FrameBlock) (c d : Core) (old new : List ℕ)
    → StepsAlone a c → known_by c ≡ Some old → known_by d ≡ Some new → GivesAlone a b c d
    → HoldsMore (memory_of a) new old b

-- such a give of the block by a core, which stays the allocator's, in the moves that one may make; where
-- nobody else steps just its frames become free, and the core is sure of the words then
pub record GivesAsCore (a : Allocator) (b : FrameBlock) (c d : Core) : Type 0 where
  pub stays : StaysCoreOf a c d
  pub gives : HasGiven c d
  pub alone : GivesAlone a b c d
  pub sure : StepsAlone a c → IsSureOf a d
  pub few : moves_by d ≤ moves_by c + most_in_give

-- by so many moves the view is as before, but for their count
abbrev pub IsSameAfter : ℕ → View → View → Type 0
IsSameAfter n v w = w ≡ record v { moves = v.moves + n }

-- the halves of the block are out, and one block more is lent
pub record HasSplit (a : Allocator) (b first second : Block) (c d : Core) : Type 0 where
  pub are_halves : AreHalves (block_in b) (block_in first) (block_in second)
  pub first_out : IsOutOf a first
  pub second_out : IsOutOf a second
  pub lent : lent_by d ≡ lent_by c +ℤ pos 1

-- a split of the block: its halves are out; or it has none, and was handed back with no move
pub record SplitsThrough (a : Allocator) (b : Block) (answer : Result (Block × Block) Block)
    (c d : Core) : Type 0 where
  pub kept : kept_by d ≡ kept_by c
  pub ok : IfOk answer (λ r. HasSplit a b r.0 r.1 c d)
  pub err : IfErr answer (λ same. (same ≡ b) × ((block_in b).order ≡ 0) × (d ≡ c))

-- the block of both buddies is out in their place, and one block less is lent
pub record HasJoined (a : Allocator) (lower upper b : Block) (c d : Core) : Type 0 where
  pub are_buddies : AreBuddies (block_in lower) (block_in upper)
  pub are_halves : AreHalves (block_in b) (block_in lower) (block_in upper)
  pub is_out : IsOutOf a b
  pub lent : lent_by d ≡ lent_by c -ℤ pos 1

-- a join of two blocks: the block of both is out; or they are no buddies, and were handed back with no
-- move
pub record JoinsThrough (a : Allocator) (lower upper : Block) (answer : Result Block (Block × Block))
    (c d : Core) : Type 0 where
  pub kept : kept_by d ≡ kept_by c
  pub ok : IfOk answer (λ b. HasJoined a lower upper b c d)
  pub err : IfErr answer (λ same. (same.0 ≡ lower) × (same.1 ≡ upper)
      × ¬ AreBuddies (block_in lower) (block_in upper) × (d ≡ c))
