-- What is left of a memory that was in use before its opening.
use Rattle.std.specs.Prelude.{◌≡◌, ◌⊎◌, ◌<◌, ◌≤◌, List, ◌∷◌, Result, IfOk, IfErr}
use Rattle.std.specs.List.{All}
use Rattle.frame_words.specs.Geometry.{huge_order}
use Rattle.frame_words.specs.declared.fault.Fault.{Fault}
use Rattle.frame_words.specs.declared.fault.Fault.TheVariants.{BadOrder, NotHeld}
use Rattle.frame_model.specs.declared.block.FrameBlock.{FrameBlock}
use Rattle.frame_model.specs.declared.key.Key.{Key}
use Rattle.frame_model.specs.Holding.{IsHolding}
use Rattle.frame_core.specs.Moves.{HasSizes}
use Rattle.frame_model.specs.Without.{without}
use Rattle.frame_table.specs.Openings.{ground_view, IsGround, IsLeft}
use Rattle.frame_table.specs.Seats.{block_in}
use Rattle.frame_table.specs.declared.block.Block.{Block}
use Rattle.core_frames.specs.declared.shared.allocator.Allocator.{Allocator}
use Rattle.core_frames.specs.declared.shared.survivors.Survivors.{Survivors}
use Rattle.core_frames.specs.Cores.{memory_of, IsOutOf}
use Rattle.core_frames.specs.LeftFrames.{Shows}

-- the blocks that were held before the opening, without what was adopted since
abbrev pub left_blocks : Survivors → List FrameBlock
left_blocks s = (ground_view s.seat).own

-- they were held before the opening of this allocator
pub record IsSurvivorsOf (a : Allocator) (s : Survivors) : Type 0 where
  pub seat : IsGround a.table s.seat
  pub sizes : HasSizes (memory_of a) s.geometry
  pub shown : Shows (memory_of a) s.left.bits.items s.left.huge.items (left_blocks s)

-- the block was left, and is out now
pub record IsAdopted (a : Allocator) (b : FrameBlock) (held : Block) (left : List FrameBlock)
    : Type 0 where
  pub was_left : IsLeft (memory_of a) left b
  pub is_block : block_in held ≡ b
  pub is_out : IsOutOf a held

-- why a block cannot be adopted: there are none of its order, or it is not left
abbrev pub IsUnadoptedFor : Allocator → FrameBlock → List FrameBlock → Fault → Type 0
IsUnadoptedFor a b left fault =
    ((fault ≡ BadOrder) × (huge_order < b.order))
    ⊎ ((fault ≡ NotHeld) × (b.order ≤ huge_order) × ¬ IsLeft (memory_of a) left b)

-- of blocks that are apart from one another, those behind the first are apart and left
abbrev pub StayLeft : Key → FrameBlock → (old new : List FrameBlock) → Type 0
StayLeft key b old new = (others : List FrameBlock) → IsHolding key (b ∷ others) → All (IsLeft key old) others
    → IsHolding key others × All (IsLeft key new) others

-- the block is adopted and leaves what is left, but for all that is apart from it; or it is refused, and
-- nothing leaves
pub record Adopts (a : Allocator) (b : FrameBlock) (answer : Result Block Fault)
    (old new : List FrameBlock) : Type 0 where
  pub ok : IfOk answer (λ held. IsAdopted a b held old × (new ≡ without b old))
  pub others : IfOk answer (λ _. StayLeft (memory_of a) b old new)
  pub err : IfErr answer (λ fault. IsUnadoptedFor a b old fault × (new ≡ old))
