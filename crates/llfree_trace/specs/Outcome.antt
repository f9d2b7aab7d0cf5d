-- What a run of a trace answers, and what it leaves.
use Rattle.std.specs.Prelude.{ℕ, ◌+◌, ◌≡◌, ◌<◌, List, [], ◌∷◌, ◌++◌, replicate}
use Rattle.std.specs.Prelude.{slice_index_or, slice_set, Result, Ok, Err}
use Rattle.std.specs.List.{flat_map}
use Rattle.held_blocks.specs.Desk.{blocks_of, MustRefuse, TakesUnder, GivesOldest, GivesExactly}
use Rattle.held_blocks.specs.LabelledBlocks.{HasNone, IsUnder, TakesFirst}
use Rattle.held_blocks.specs.declared.labelled_block.LabelledBlock.{LabelledBlock}
use Rattle.frame_model.specs.Block.{block}
use Rattle.frame_model.specs.Holding.{IsFreeBlock, IsHolding, holders}
use Rattle.frame_model.specs.View.{boot_blocks}
use Rattle.frame_core.specs.Image.{Contents}
use Rattle.frame_model.specs.Key.{frame_count, sealed_key}
use Rattle.frame_model.specs.Report.{held_at}
use Rattle.frame_model.specs.declared.block.FrameBlock.{FrameBlock}
use Rattle.frame_model.specs.declared.key.Key.{Key}
use Rattle.frame_words.specs.declared.fault.Fault.{Fault}
use Rattle.frame_words.specs.declared.fault.Fault.TheVariants as fault
use Rattle.trace_text.specs.Trace.{ranges_in}
use Rattle.trace_text.specs.declared.line.Line.{Line}
use Rattle.trace_text.specs.declared.line.Line.TheVariants as line
use Rattle.trace_text.specs.declared.line.Request.{Request}
use Rattle.trace_text.specs.declared.line.Request.TheVariants as request
use Rattle.trace_text.specs.declared.reply.Answer.{Answer}
use Rattle.trace_text.specs.declared.reply.Reply.{Reply}
use Rattle.trace_text.specs.declared.reply.Reply.TheVariants as reply

-- Lists.

-- the blocks of the lists of all cores
abbrev pub all_blocks : List (List LabelledBlock) → List FrameBlock
all_blocks lists = flat_map blocks_of lists

-- the list of a core
abbrev pub core_list : List (List LabelledBlock) → ℕ → List LabelledBlock
core_list lists core = slice_index_or lists core []

-- the lists with one more entry at the end of a core's list
abbrev pub put_last : List (List LabelledBlock) → ℕ → LabelledBlock → List (List LabelledBlock)
put_last lists core entry = slice_set lists core (core_list lists core ++ entry ∷ [])

-- Steps of one core's list.

-- the reply to a take says an outcome of which P holds
abbrev pub SaysTaken : (Result (ℕ × ℕ) Fault → Type 0) → Reply → Type 0
SaysTaken P (reply.Taken frame order) = P (Ok (frame, order))
SaysTaken P (reply.Refused f) = P (Err f)
SaysTaken P _ = ⊥

-- the reply to a give says an outcome of which P holds
abbrev pub SaysGiven : (Result (ℕ × ℕ) Fault → Type 0) → Reply → Type 0
SaysGiven P (reply.Given frame order) = P (Ok (frame, order))
SaysGiven P (reply.Refused f) = P (Err f)
SaysGiven P _ = ⊥

-- a block that a take answers has no frame that nobody is ever given
abbrev pub LeavesBootFrames : Key → Result (ℕ × ℕ) Fault → Type 0
LeavesBootFrames key (Ok b) = IsFreeBlock (boot_blocks key) (block b.0 b.1)
LeavesBootFrames key (Err f) = Unit {0}

-- no block of the order is free beside the list and the frames that nobody is ever given
abbrev pub MustRefuseHere : Key → List FrameBlock → ℕ → Fault → Type 0
MustRefuseHere key held order f = MustRefuse key (held ++ boot_blocks key) order f

-- what a request answers, and the list afterwards
unfoldable pub DeskStep : (Key → List FrameBlock → ℕ → Fault → Type 0) → Key
    → List LabelledBlock → Request → Reply → List LabelledBlock → Type 0
DeskStep refuses key old (request.Take label order) r new =
    SaysTaken (λ o. TakesUnder refuses key old label order o new × LeavesBootFrames key o) r
DeskStep refuses key old (request.Give label) r new =
    SaysGiven (λ o. GivesOldest old label o new) r
DeskStep refuses key old (request.GiveAt frame order) r new =
    SaysGiven (λ o. GivesExactly old frame order o new) r

-- Moves between two cores' lists, or inside one.

-- the oldest entry under the label, which has this block, leaves the core's list and goes last in
-- the other's
pub record MovesOldest (old : List (List LabelledBlock)) (core : ℕ) (label : List ℕ) (to : ℕ)
    (b : FrameBlock) (new : List (List LabelledBlock)) : Type 0 where
  pub entry : LabelledBlock
  pub left : List LabelledBlock
  pub is_block : entry.block ≡ b
  pub leaves : TakesFirst (IsUnder label) (core_list old core) entry left
  pub goes_last : new ≡ put_last (slice_set old core left) to entry

-- what a move of the oldest block under a label answers, and the lists afterwards; where there is
-- none, none is held under the label
unfoldable pub Moves :
    List (List LabelledBlock) → ℕ → List ℕ → ℕ → Reply → List (List LabelledBlock) → Type 0
Moves old core label to (reply.Moved frame order) new =
    MovesOldest old core label to (block frame order) new
Moves old core label to (reply.Refused fault.NotHeld) new =
    HasNone (IsUnder label) (core_list old core) × (new ≡ old)
Moves old core label to _ new = ⊥

-- Runs.

-- the records, the first of which has this number, are answered one after another; each answer has
-- its record's number and core; to a request it is a step of that core's list, to a move one of the
-- lists of both its cores, and the blocks of each of these lists stay disjoint; the end of a round
-- and a range that is held back have no answer
unfoldable pub Runs : (Key → List FrameBlock → ℕ → Fault → Type 0) → Key → ℕ
    → List (List LabelledBlock) → List Line → List Answer → List (List LabelledBlock) → Type 0
Runs refuses key number old [] [] new = old ≡ new
Runs refuses key number old (line.Ask core request ∷ lines) (a ∷ answers) new =
    (a.line ≡ number) × (a.core ≡ core)
    × (list : List LabelledBlock) × DeskStep refuses key (core_list old core) request a.reply list
    × IsHolding key (blocks_of list)
    × Runs refuses key (number + 1) (slice_set old core list) lines answers new
Runs refuses key number old (line.Move core label to ∷ lines) (a ∷ answers) new =
    (a.line ≡ number) × (a.core ≡ core)
    × (lists : List (List LabelledBlock)) × Moves old core label to a.reply lists
    × IsHolding key (blocks_of (core_list lists core)) × IsHolding key (blocks_of (core_list lists to))
    × Runs refuses key (number + 1) lists lines answers new
Runs refuses key number old (line.Round ∷ lines) answers new =
    Runs refuses key (number + 1) old lines answers new
Runs refuses key number old (line.Reserve frame count ∷ lines) answers new =
    Runs refuses key (number + 1) old lines answers new
Runs refuses key number old _ _ new = ⊥

-- the held frames are exactly those of the blocks
abbrev pub HoldsFrames : Key → List ℕ → List FrameBlock → Type 0
HoldsFrames key words blocks =
    (x : ℕ) → x < frame_count key → held_at key words x ≡ holders x blocks

-- the key of the memory that a run leaves: its opening held back the ranges of the records
abbrev pub key_under : List Line → Contents → Key
key_under lines image = sealed_key image.geometry (ranges_in lines)

-- the answers are a run of the records from empty lists, one for each core; at the end no two
-- blocks of all lists share a frame, and the image's held frames are exactly those of the lists and
-- those that nobody is ever given, past the end and in the ranges of the records
pub record IsAnsweredBy (refuses : Key → List FrameBlock → ℕ → Fault → Type 0) (lines : List Line)
    (answers : List Answer) (image : Contents) : Type 0 where
  pub lists : List (List LabelledBlock)
  pub runs :
      Runs refuses (key_under lines image) 1 (replicate image.geometry.cores []) lines answers lists
  pub disjoint : IsHolding (key_under lines image) (all_blocks lists)
  pub holds : HoldsFrames (key_under lines image) image.words
      (all_blocks lists ++ boot_blocks (key_under lines image))
