-- The list of one core beside the allocator that its blocks came from.
use Rattle.std.specs.Prelude.{ℕ, ◌+◌, ◌≡◌, List, [], ◌∷◌, length}
use Rattle.std.specs.List.{sum_by}
use Rattle.core_frames.specs.PlainState.{PlainState}
use Rattle.frame_model.specs.Holding.{IsHolding}
use Rattle.frame_model.specs.Key.{sealed_key}
use Rattle.frame_model.specs.declared.block.FrameBlock.{FrameBlock}
use Rattle.frame_model.specs.declared.key.Key.{Key}
use Rattle.frame_words.specs.declared.geometry.Geometry.{Geometry}
use Rattle.held_blocks.specs.Desk.{blocks_of}
use Rattle.held_blocks.specs.declared.labelled_block.LabelledBlock.{LabelledBlock}
use Rattle.llfree_trace.specs.Outcome.{Moves, MustRefuseHere, Runs}
use Rattle.trace_text.specs.declared.line.Line.{Line}
use Rattle.trace_text.specs.declared.reply.Answer.{Answer}
use Rattle.trace_text.specs.declared.reply.Reply.{Reply}
use Rattle.trace_text.specs.declared.reply.Reply.TheVariants as reply

-- a memory, the ranges that its opening held back, and the list of what its one core holds
pub record DeskState : Type 0 where
  pub geometry : Geometry
  pub ranges : List (ℕ × ℕ)
  pub list : List LabelledBlock

-- the key of the memory
abbrev pub desk_key : DeskState → Key
desk_key desk = sealed_key desk.geometry desk.ranges

-- the blocks of the list lie inside the memory, and no two of them share a frame
abbrev pub IsLawful : DeskState → Type 0
IsLawful desk = IsHolding (desk_key desk) (blocks_of desk.list)

-- the memory and its ranges are the same
abbrev pub IsSameMemory : DeskState → DeskState → Type 0
IsSameMemory old new = (new.geometry ≡ old.geometry) × (new.ranges ≡ old.ranges)

-- how many blocks a reply tells to have come
abbrev pub came_by : Reply → ℕ
came_by (reply.Taken frame order) = 1
came_by _ = 0

-- how many blocks a reply tells to have gone
abbrev pub went_by : Reply → ℕ
went_by (reply.Given frame order) = 1
went_by _ = 0

-- the list has as many blocks more or fewer as the reply tells
abbrev pub CountsBy : List LabelledBlock → List LabelledBlock → Reply → Type 0
CountsBy old new r = length new + went_by r ≡ length old + came_by r

-- exactly the blocks of the list are out
pub record HasOut (allocator : PlainState) (held : List LabelledBlock) : Type 0 where
  pub none_kept : allocator.kept ≡ []
  pub out : (f : FrameBlock → ℕ) → sum_by f (blocks_of held) ≡ sum_by f allocator.out

-- a move of the oldest block under a label from the first core to itself, whatever the others hold
abbrev pub MovesToEnd : List LabelledBlock → List ℕ → Reply → List LabelledBlock → Type 0
MovesToEnd old label r new =
    (others : List (List LabelledBlock)) → Moves (old ∷ others) 0 label 0 r (new ∷ others)

-- a run of records on the first core, whatever the others hold
abbrev pub RunsFirst : DeskState → ℕ → List Line → List Answer → DeskState → Type 0
RunsFirst old number lines answers new =
    (others : List (List LabelledBlock)) → Runs MustRefuseHere (desk_key old) number
    (old.list ∷ others) lines answers (new.list ∷ others)
