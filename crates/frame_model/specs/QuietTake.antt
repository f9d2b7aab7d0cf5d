-- A take while nobody else takes or gives: any free block of the order, or none where none is free.
use Rattle.std.specs.Prelude.{◌≡◌, ℕ, ◌<◌, ◌≤◌, List, ◌∷◌, Result, Ok, Err, IsPermutation}
use Rattle.frame_words.specs.declared.fault.TakeFault.{TakeFault}
use Rattle.frame_words.specs.declared.fault.TakeFault.TheVariants.{BadOrder, NoBlock, Contended}
use Rattle.frame_model.specs.declared.block.FrameBlock.{FrameBlock}
use Rattle.frame_model.specs.declared.key.Key.{Key}
use Rattle.frame_model.specs.Block.{IsBlock}
use Rattle.frame_model.specs.Holding.{IsFreeBlock}

-- the block is of the order and was free, and the new holding is the old one with it
pub record TakesBlock (key : Key) (old new : List FrameBlock) (order : ℕ) (b : FrameBlock)
    : Type 0 where
  pub is_block : IsBlock key b
  pub has_order : b.order ≡ order
  pub was_free : IsFreeBlock old b
  pub added : IsPermutation (b ∷ old) new

-- no block of the order is free, and the holding stays
pub record FindsNone (key : Key) (old new : List FrameBlock) (order : ℕ) : Type 0 where
  pub lawful : order ≤ 9
  pub none : (b : FrameBlock) → IsBlock key b → b.order ≡ order → ¬ IsFreeBlock old b
  pub unchanged : new ≡ old

-- there are no blocks of such an order, and the holding stays
pub record RefusesOrder (old new : List FrameBlock) (order : ℕ) : Type 0 where
  pub above : 9 < order
  pub unchanged : new ≡ old

-- what a quiet take of an order answers under a holding, and the holding afterwards
abbrev pub QuietTake
    : Key → List FrameBlock → List FrameBlock → ℕ → Result FrameBlock TakeFault → Type 0
QuietTake key old new order (Ok b) = TakesBlock key old new order b
QuietTake key old new order (Err BadOrder) = RefusesOrder old new order
QuietTake key old new order (Err NoBlock) = FindsNone key old new order
QuietTake key old new order (Err Contended) = ⊥
