-- What a desk answers: the calls of a core that holds blocks, each under a label, oldest first.
use Rattle.std.specs.Prelude.{◌≡◌, ℕ, ◌<◌, ◌≤◌, List, [], ◌∷◌, ◌++◌, map, Result, Ok, Err}
use Rattle.held_blocks.specs.LabelledBlocks.{HasNone, IsTheBlock, IsUnder, TakesFirst}
use Rattle.held_blocks.specs.declared.labelled_block.LabelledBlock.{LabelledBlock}
use Rattle.frame_model.specs.Block.{IsBlock, block}
use Rattle.frame_model.specs.Holding.{IsFreeBlock}
use Rattle.frame_model.specs.declared.block.FrameBlock.{FrameBlock}
use Rattle.frame_model.specs.declared.key.Key.{Key}
use Rattle.frame_words.specs.declared.fault.Fault.{Fault}
use Rattle.frame_words.specs.declared.fault.Fault.TheVariants as fault

-- Lists.

-- the blocks of a list, oldest first
abbrev pub blocks_of : List LabelledBlock → List FrameBlock
blocks_of list = map (λ e. e.block) list

-- Why a take of a lawful order may be refused, by the key, the blocks of the list, and the order.

-- others may hold what is free under the list, or take it meanwhile
abbrev pub MayRefuse : Key → List FrameBlock → ℕ → Fault → Type 0
MayRefuse key held order fault.NoBlock = Unit {0}
MayRefuse key held order fault.Contended = Unit {0}
MayRefuse key held order _ = ⊥

-- no block of the order is free under the list
abbrev pub MustRefuse : Key → List FrameBlock → ℕ → Fault → Type 0
MustRefuse key held order fault.NoBlock =
    (b : FrameBlock) → IsBlock key b → b.order ≡ order → ¬ IsFreeBlock held b
MustRefuse key held order _ = ⊥

-- others may hold what is free under the list, or memory is refused
abbrev pub MayFail : Key → List FrameBlock → ℕ → Fault → Type 0
MayFail key held order fault.NoMemory = Unit {0}
MayFail key held order fault.NoBlock = Unit {0}
MayFail key held order fault.Contended = Unit {0}
MayFail key held order _ = ⊥

-- What each call answers, and the list afterwards. A block that is answered is its first frame and
-- its order.

-- the block goes last, under the label
abbrev pub Lays : List LabelledBlock → List ℕ → FrameBlock → List LabelledBlock → Type 0
Lays old label b new = new ≡ old ++ record { label = label; block = b } ∷ []

-- a block of the order that is free under the list goes last, under the label
pub record PutsLast (key : Key) (old : List LabelledBlock) (label : List ℕ) (order : ℕ)
    (b : FrameBlock) (new : List LabelledBlock) : Type 0 where
  pub is_block : IsBlock key b
  pub has_order : b.order ≡ order
  pub was_free : IsFreeBlock (blocks_of old) b
  pub last : Lays old label b new

-- a take of an order under a label
unfoldable pub TakesUnder : (Key → List FrameBlock → ℕ → Fault → Type 0) → Key
    → List LabelledBlock → List ℕ → ℕ → Result (ℕ × ℕ) Fault → List LabelledBlock → Type 0
TakesUnder refuses key old label order (Ok b) new =
    PutsLast key old label order (block b.0 b.1) new
TakesUnder refuses key old label order (Err fault.BadOrder) new = (9 < order) × (new ≡ old)
TakesUnder refuses key old label order (Err f) new =
    (order ≤ 9) × refuses key (blocks_of old) order f × (new ≡ old)

-- the oldest entry of a kind leaves, and its block is answered; where there is none, none is held
unfoldable pub GivesFirst : {B : Type 0} → (B → FrameBlock) → (LabelledBlock → Type 0)
    → List LabelledBlock → Result B Fault → List LabelledBlock → Type 0
GivesFirst block_by kind old (Ok b) new =
    (e : LabelledBlock) × (e.block ≡ block_by b) × TakesFirst kind old e new
GivesFirst block_by kind old (Err fault.NotHeld) new = HasNone kind old × (new ≡ old)
GivesFirst block_by kind old (Err _) new = ⊥

-- the block that a first frame and an order are
abbrev pub pair_block : ℕ × ℕ → FrameBlock
pair_block b = block b.0 b.1

-- a give of the oldest block under a label
abbrev pub GivesOldest :
    List LabelledBlock → List ℕ → Result (ℕ × ℕ) Fault → List LabelledBlock → Type 0
GivesOldest old label r new = GivesFirst pair_block (IsUnder label) old r new

-- a give of exactly one block
abbrev pub GivesExactly :
    List LabelledBlock → ℕ → ℕ → Result (ℕ × ℕ) Fault → List LabelledBlock → Type 0
GivesExactly old frame order r new =
    (9 < order → (r ≡ Err fault.BadOrder) × (new ≡ old))
    × (order ≤ 9 → GivesFirst pair_block (IsTheBlock frame order) old r new)
