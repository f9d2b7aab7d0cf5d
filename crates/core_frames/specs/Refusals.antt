-- Refusals that would be wrong, and numbers of cores that would be.
use Rattle.std.specs.Prelude.{◌≡◌, ◌≢◌, ℕ, ◌+◌, ◌<◌, ◌≤◌, List, length, slice_index_or, Some}
use Rattle.frame_words.specs.Geometry.{huge_order}
use Rattle.frame_words.specs.declared.fault.Fault.TheVariants as fault
use Rattle.frame_words.specs.declared.geometry.Geometry.{Geometry}
use Rattle.frame_words.specs.declared.fault.TakeFault.{TakeFault}
use Rattle.frame_words.specs.declared.fault.TakeFault.TheVariants.{BadOrder, NoBlock, Contended}
use Rattle.frame_model.specs.declared.block.FrameBlock.{FrameBlock}
use Rattle.frame_model.specs.Key.{tree_count}
use Rattle.frame_table.specs.Closing.{IsUnclosedFor}
use Rattle.frame_table.specs.Openings.{IsLeft}
use Rattle.low_frames.specs.Alone.{IsFreeIn}
use Rattle.core_frames.specs.declared.shared.allocator.Allocator.{Allocator}
use Rattle.core_frames.specs.declared.shared.allocator.Core.{Core}
use Rattle.core_frames.specs.Cores.{memory_of, number_of, view_in, moves_by, losses_by, known_by}
use Rattle.core_frames.specs.Cores.{StepsAlone, AreNumbered}
use Rattle.core_frames.specs.Search.{IsBlockOf}
use Rattle.core_frames.specs.Left.{IsUnadoptedFor}
use Rattle.core_frames.specs.Places.{HasSuchBlock, IsRefusedAt}
use Rattle.core_frames.specs.Ranges.{IsUnopenedFor, MayHoldBack}
use Rattle.core_frames.specs.Uses.{IsRefusedFor, IsRefusedAtDesk}

-- no take of an order up to 9 is refused for its order, and none that steps
abbrev pub OrderIsLawful : Type 0
OrderIsLawful = (a : Allocator) (n : ℕ) (c d : Core)
    → (n ≤ huge_order → ¬ IsRefusedFor a n c d BadOrder)
    × (view_in d ≢ view_in c → ¬ IsRefusedFor a n c d BadOrder)

-- no take of an order above 9 is refused for want of a block
abbrev pub OrderIsUnlawful : Type 0
OrderIsUnlawful = (a : Allocator) (n : ℕ) (c d : Core) → huge_order < n
    → (¬ IsRefusedFor a n c d NoBlock) × (¬ IsRefusedFor a n c d Contended)

-- none is refused for want of a block in fewer moves than there are trees
abbrev pub MovesTooLittle : Type 0
MovesTooLittle = (a : Allocator) (n : ℕ) (c d : Core) → moves_by d < moves_by c + tree_count (memory_of a)
    → (¬ IsRefusedFor a n c d NoBlock) × (¬ IsRefusedFor a n c d Contended)

-- none is refused as contended where no exchange was lost, and none as without a block where one was
abbrev pub LossIsUntold : Type 0
LossIsUntold = (a : Allocator) (n : ℕ) (c d : Core)
    → (losses_by d ≤ losses_by c → ¬ IsRefusedFor a n c d Contended)
    × (losses_by c < losses_by d → ¬ IsRefusedFor a n c d NoBlock)

-- no core that steps alone and knows the words is refused a block of an order of which one is free
abbrev pub FreeIsRefused : Type 0
FreeIsRefused = (a : Allocator) (n : ℕ) (c d : Core) (words : List ℕ) (b : FrameBlock)
    → StepsAlone a c → known_by c ≡ Some words → IsBlockOf (memory_of a) n b → IsFreeIn (memory_of a) words b
    → (¬ IsRefusedFor a n c d NoBlock) × (¬ IsRefusedFor a n c d Contended)

-- no core that steps alone and knows the words is refused a free block at its place, whatever it is told
abbrev pub FreePlaceIsRefused : Type 0
FreePlaceIsRefused = (a : Allocator) (b : FrameBlock) (c d : Core) (words : List ℕ) (fault : TakeFault)
    → StepsAlone a c → known_by c ≡ Some words → HasSuchBlock (memory_of a) b → IsFreeIn (memory_of a) words b
    → ¬ IsRefusedAt a b c d fault

-- no take of just one block that the memory has is refused with no move; none is refused as without a block
-- where an exchange was lost, and none as contended where none was
abbrev pub PlaceIsRefused : Type 0
PlaceIsRefused = (a : Allocator) (b : FrameBlock) (c d : Core) (fault : TakeFault)
    → (HasSuchBlock (memory_of a) b → moves_by d ≤ moves_by c → ¬ IsRefusedAt a b c d fault)
    × (losses_by c < losses_by d → ¬ IsRefusedAt a b c d NoBlock)
    × (losses_by d ≤ losses_by c → ¬ IsRefusedAt a b c d Contended)

-- no desk says what its allocator may not, nor that memory is wanting after a step
abbrev pub DeskIsRefused : Type 0
DeskIsRefused = (a : Allocator) (n : ℕ) (c d : Core)
    → (d ≢ c → (¬ IsRefusedAtDesk a n c d fault.BadOrder) × (¬ IsRefusedAtDesk a n c d fault.NoMemory))
    × (moves_by d < moves_by c + tree_count (memory_of a)
    → (¬ IsRefusedAtDesk a n c d fault.NoBlock) × (¬ IsRefusedAtDesk a n c d fault.Contended))
    × (losses_by d ≤ losses_by c → ¬ IsRefusedAtDesk a n c d fault.Contended)
    × (losses_by c < losses_by d → ¬ IsRefusedAtDesk a n c d fault.NoBlock)

-- no block that is left is refused, and none of a lawful order for its order
abbrev pub LeftIsRefused : Type 0
LeftIsRefused = (a : Allocator) (b : FrameBlock) (left : List FrameBlock)
    → (IsLeft (memory_of a) left b → ¬ IsUnadoptedFor a b left fault.NotHeld)
    × (b.order ≤ huge_order → ¬ IsUnadoptedFor a b left fault.BadOrder)

-- no opening refuses ranges that may be held back, and none takes memory as wanting for others
abbrev pub RangesAreRefused : Type 0
RangesAreRefused = (geometry : Geometry) (ranges : List (ℕ × ℕ))
    → (MayHoldBack geometry ranges → ¬ IsUnopenedFor geometry ranges fault.BadRange)
    × (¬ MayHoldBack geometry ranges → ¬ IsUnopenedFor geometry ranges fault.NoMemory)

-- no closing says that a seat is missing where none is, or that memory is where a seat is
abbrev pub ClosingIsRefused : Type 0
ClosingIsRefused = (cores seats : ℕ)
    → (cores ≤ seats → ¬ IsUnclosedFor cores seats fault.MissingCores)
    × (seats < cores → ¬ IsUnclosedFor cores seats fault.NoMemory)

-- no cores are numbered where one has another number than its place
abbrev pub NumberIsAnother : Type 0
NumberIsAnother = (cores : List Core) (k : ℕ) (d : Core) → k < length cores
    → number_of (slice_index_or cores k d) ≢ k → ¬ AreNumbered cores
