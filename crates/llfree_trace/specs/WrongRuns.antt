-- Runs and outcomes that would be wrong.
use Rattle.std.specs.Prelude.{ℕ, ◌+◌, ◌≡◌, ◌≢◌, ◌<◌, ◌≤◌, ◌⊎◌, Bool, true, false, List, [], ◌∷◌, ◌++◌, map, replicate}
use Rattle.std.specs.List.{sum_by}
use Rattle.frame_model.specs.Block.{IsBlock, block, covers}
use Rattle.frame_model.specs.Holding.{IsFreeBlock, holders}
use Rattle.frame_core.specs.Image.{Contents}
use Rattle.frame_model.specs.Key.{frame_count}
use Rattle.frame_model.specs.Report.{held_at}
use Rattle.frame_model.specs.View.{boot_blocks}
use Rattle.frame_model.specs.declared.block.FrameBlock.{FrameBlock}
use Rattle.frame_model.specs.declared.key.Key.{Key}
use Rattle.frame_words.specs.declared.fault.Fault.{Fault}
use Rattle.frame_words.specs.declared.fault.Fault.TheVariants as fault
use Rattle.held_blocks.specs.Desk.{MayRefuse, blocks_of}
use Rattle.held_blocks.specs.LabelledBlocks.{IsTheBlock, IsUnder, TakesFirst}
use Rattle.held_blocks.specs.declared.labelled_block.LabelledBlock.{LabelledBlock}
use Rattle.llfree_trace.specs.Outcome.{IsAnsweredBy, MustRefuseHere, Runs, core_list, key_under}
use Rattle.llfree_trace.specs.Rounds.{spot}
use Rattle.trace_text.specs.Trace.{core_count}
use Rattle.trace_text.specs.declared.line.Line.{Line}
use Rattle.trace_text.specs.declared.line.Line.TheVariants as line
use Rattle.trace_text.specs.declared.line.Request.TheVariants as request
use Rattle.trace_text.specs.declared.reply.Answer.{Answer}
use Rattle.trace_text.specs.declared.reply.Reply.{Reply}
use Rattle.trace_text.specs.declared.reply.Reply.TheVariants as reply

-- Records that are answered wrongly.

-- takes are refused where they must be, as on one core, or where they may be, as on several
abbrev pub refusing : Bool → Key → List FrameBlock → ℕ → Fault → Type 0
refusing true = MustRefuseHere
refusing false = MayRefuse

-- no run goes on so from these lists, whatever comes behind: the record is not answered by this reply
abbrev pub IsNeverAnswered : Bool → Key → List (List LabelledBlock) → Line → Reply → Type 0
IsNeverAnswered alone key old asked r = (number n k : ℕ) (lines : List Line) (answers : List Answer)
    (new : List (List LabelledBlock))
    → ¬ Runs (refusing alone) key number old (asked ∷ lines) (record { line = n; core = k; reply = r } ∷ answers) new

-- the core that a record names first
abbrev pub first_core_of : Line → ℕ
first_core_of (line.Ask core request) = core
first_core_of (line.Move core label to) = core
first_core_of _ = 0

-- the reply is of the record's kind: a take is answered a block that was taken, and so on
abbrev pub IsOfKind : Line → Reply → Type 0
IsOfKind (line.Ask core (request.Take label order)) (reply.Taken frame o) = Unit {0}
IsOfKind (line.Ask core (request.Give label)) (reply.Given frame o) = Unit {0}
IsOfKind (line.Ask core (request.GiveAt frame order)) (reply.Given g o) = Unit {0}
IsOfKind (line.Move core label to) (reply.Moved frame o) = Unit {0}
IsOfKind line.Round r = Unit {0}
IsOfKind (line.Reserve frame count) r = Unit {0}
IsOfKind asked (reply.Refused f) = Unit {0}
IsOfKind asked r = ⊥

-- no record is answered by a reply of another kind
abbrev pub OtherKind : Type 0
OtherKind = (alone : Bool) (key : Key) (old : List (List LabelledBlock)) (asked : Line) (r : Reply)
    → ¬ IsOfKind asked r → IsNeverAnswered alone key old asked r

-- a block that a take of the order may be answered: it has the order and lies in memory, and none of its frames is one
-- of the core's or one that nobody is ever given
pub record MayBeTaken (key : Key) (held : List FrameBlock) (order : ℕ) (b : FrameBlock) : Type 0 where
  pub has_order : b.order ≡ order
  pub inside : IsBlock key b
  pub unheld : IsFreeBlock held b
  pub given : IsFreeBlock (boot_blocks key) b

-- no take is answered any other block
abbrev pub WrongBlockIsTaken : Type 0
WrongBlockIsTaken = (alone : Bool) (key : Key) (old : List (List LabelledBlock)) (core : ℕ) (label : List ℕ)
    (order frame o : ℕ) → ¬ MayBeTaken key (blocks_of (core_list old core)) order (block frame o)
    → IsNeverAnswered alone key old (line.Ask core (request.Take label order)) (reply.Taken frame o)

-- why a take of a lawful order may be refused: on one core since no block of the order is free, on several since none
-- was found, or one was lost
abbrev pub IsReason : Bool → Key → List FrameBlock → ℕ → Fault → Type 0
IsReason true key held order f = (f ≡ fault.NoBlock)
    × ((b : FrameBlock) → IsBlock key b → b.order ≡ order → ¬ IsFreeBlock (held ++ boot_blocks key) b)
IsReason false key held order f = (f ≡ fault.NoBlock) ⊎ (f ≡ fault.Contended)

-- no take is refused without a reason, and above order 9 for no other than its order
abbrev pub TakeIsRefused : Type 0
TakeIsRefused = (alone : Bool) (key : Key) (old : List (List LabelledBlock)) (core : ℕ) (label : List ℕ)
    (order : ℕ) (f : Fault)
    → ((9 < order → f ≢ fault.BadOrder → IsNeverAnswered alone key old (line.Ask core (request.Take label order)) (reply.Refused f))
    × (order ≤ 9 → ¬ IsReason alone key (blocks_of (core_list old core)) order f
    → IsNeverAnswered alone key old (line.Ask core (request.Take label order)) (reply.Refused f)))

-- the entries of the core's list that a record gives or moves
abbrev pub IsMeant : Line → LabelledBlock → Type 0
IsMeant (line.Ask core (request.Give label)) e = IsUnder label e
IsMeant (line.Ask core (request.GiveAt frame order)) e = IsTheBlock frame order e
IsMeant (line.Move core label to) e = IsUnder label e
IsMeant _ e = ⊥

-- where such an entry is held, no give and no move is answered another block than that of the oldest, nor that none is
-- held
abbrev pub OtherBlockIsGiven : Type 0
OtherBlockIsGiven = (alone : Bool) (key : Key) (old : List (List LabelledBlock)) (asked : Line) (e : LabelledBlock)
    (others : List LabelledBlock) → TakesFirst (IsMeant asked) (core_list old (first_core_of asked)) e others
    → ((frame o : ℕ) → e.block ≢ block frame o → IsNeverAnswered alone key old asked (reply.Given frame o)
    × IsNeverAnswered alone key old asked (reply.Moved frame o))
    × IsNeverAnswered alone key old asked (reply.Refused fault.NotHeld)

-- why a give or a move may be refused: none is held, or for a give of exactly one block its order is above 9
abbrev pub IsReasonToKeep : Line → Fault → Type 0
IsReasonToKeep (line.Ask core (request.Give label)) f = f ≡ fault.NotHeld
IsReasonToKeep (line.Ask core (request.GiveAt frame order)) f =
    ((order ≤ 9) × (f ≡ fault.NotHeld)) ⊎ ((9 < order) × (f ≡ fault.BadOrder))
IsReasonToKeep (line.Move core label to) f = f ≡ fault.NotHeld
IsReasonToKeep _ f = Unit {0}

-- no give and no move is refused for another reason
abbrev pub GiveIsRefused : Type 0
GiveIsRefused = (alone : Bool) (key : Key) (old : List (List LabelledBlock)) (asked : Line) (f : Fault)
    → ¬ IsReasonToKeep asked f → IsNeverAnswered alone key old asked (reply.Refused f)

-- where two blocks of a core's list share a frame, no run goes on with a take of it, nor with a move from it or to it that
-- moves nothing
abbrev pub ListOverlaps : Type 0
ListOverlaps = (alone : Bool) (key : Key) (old : List (List LabelledBlock)) (core : ℕ) (x : ℕ)
    → 1 < holders x (blocks_of (core_list old core))
    → ((label : List ℕ) (order : ℕ) (f : Fault)
    → IsNeverAnswered alone key old (line.Ask core (request.Take label order)) (reply.Refused f))
    × ((label : List ℕ) (other : ℕ) (f : Fault)
    → IsNeverAnswered alone key old (line.Move core label other) (reply.Refused f)
    × IsNeverAnswered alone key old (line.Move other label core) (reply.Refused f))

-- Worked runs.

-- the run of these records from empty lists is answered so, with any numbers
abbrev pub IsWorkedRun : Bool → Key → ℕ → List Line → List Answer → Type 0
IsWorkedRun alone key cores lines answers =
    (number : ℕ) × (new : List (List LabelledBlock)) × Runs (refusing alone) key number (replicate cores []) lines answers new

-- of two blocks that a core takes under one label, a give under it is answered the one that was taken first
abbrev pub FirstTakenIsGivenFirst : Type 0
FirstTakenIsGivenFirst = (alone : Bool) (key : Key) (cores core : ℕ) (label : List ℕ) (p q : ℕ)
    (frame order other o n m k : ℕ) (r : Reply) → core < cores
    → IsWorkedRun alone key cores
    (line.Ask core (request.Take label p) ∷ line.Ask core (request.Take label q) ∷ line.Ask core (request.Give label) ∷ [])
    (record { line = n; core = core; reply = reply.Taken frame order }
    ∷ record { line = m; core = core; reply = reply.Taken other o } ∷ record { line = k; core = core; reply = r } ∷ [])
    → r ≡ reply.Given frame order

-- a core gives back nothing that another took under the label
abbrev pub EachGivesItsOwn : Type 0
EachGivesItsOwn = (alone : Bool) (key : Key) (cores core giver : ℕ) (label : List ℕ) (p frame order n m : ℕ) (r : Reply)
    → core < cores → giver < cores → core ≢ giver
    → IsWorkedRun alone key cores (line.Ask core (request.Take label p) ∷ line.Ask giver (request.Give label) ∷ [])
    (record { line = n; core = core; reply = reply.Taken frame order } ∷ record { line = m; core = giver; reply = r } ∷ [])
    → r ≡ reply.Refused fault.NotHeld

-- but what has moved to its list, it gives
abbrev pub WhatMovedIsGiven : Type 0
WhatMovedIsGiven = (alone : Bool) (key : Key) (cores core giver : ℕ) (label : List ℕ) (p frame order n m k : ℕ) (r s : Reply)
    → core < cores → giver < cores → core ≢ giver
    → IsWorkedRun alone key cores
    (line.Ask core (request.Take label p) ∷ line.Move core label giver ∷ line.Ask giver (request.Give label) ∷ [])
    (record { line = n; core = core; reply = reply.Taken frame order }
    ∷ record { line = m; core = core; reply = r } ∷ record { line = k; core = giver; reply = s } ∷ [])
    → (r ≡ reply.Moved frame order) × (s ≡ reply.Given frame order)

-- Outcomes.

-- the records that are answered, each by its number and its core
unfoldable pub answered_from : ℕ → List Line → List (ℕ × ℕ)
answered_from number [] = []
answered_from number (line.Ask core request ∷ lines) = (number, core) ∷ answered_from (number + 1) lines
answered_from number (line.Move core label to ∷ lines) = (number, core) ∷ answered_from (number + 1) lines
answered_from number (_ ∷ lines) = answered_from (number + 1) lines

-- 1 where a reply says that a block with the frame was taken
abbrev pub taken_by : ℕ → Reply → ℕ
taken_by x (reply.Taken frame order) = covers (block frame order) x
taken_by x _ = 0

-- 1 where a reply says that a block with the frame was given back
abbrev pub given_by : ℕ → Reply → ℕ
given_by x (reply.Given frame order) = covers (block frame order) x
given_by x _ = 0

-- how many of the answers say that a block with the frame was taken
abbrev pub times_taken : ℕ → List Answer → ℕ
times_taken x answers = sum_by (λ a. taken_by x a.reply) answers

-- how many say that one was given back
abbrev pub times_given : ℕ → List Answer → ℕ
times_given x answers = sum_by (λ a. given_by x a.reply) answers

-- no outcome has an answer too many or too few, or one with another number or core than its record's
abbrev pub OtherIsAnswered : Type 0
OtherIsAnswered = (alone : Bool) (lines : List Line) (answers : List Answer) (image : Contents)
    → map spot answers ≢ answered_from 1 lines → ¬ IsAnsweredBy (refusing alone) lines answers image

-- no outcome of a trace whose cores the memory has leaves a frame in two blocks: taken twice more than it was given back
abbrev pub FrameIsShared : Type 0
FrameIsShared = (alone : Bool) (lines : List Line) (answers : List Answer) (image : Contents) (x : ℕ)
    → core_count lines ≤ image.geometry.cores → times_given x answers + 1 < times_taken x answers
    → ¬ IsAnsweredBy (refusing alone) lines answers image

-- the image of no such outcome holds a frame too many or too few: each is held just as often as it was taken and not given
-- back, or once where nobody is ever given it
abbrev pub OtherFramesAreHeld : Type 0
OtherFramesAreHeld = (alone : Bool) (lines : List Line) (answers : List Answer) (image : Contents) (x : ℕ)
    → core_count lines ≤ image.geometry.cores → x < frame_count (key_under lines image)
    → held_at (key_under lines image) image.words x + times_given x answers
    ≢ times_taken x answers + holders x (boot_blocks (key_under lines image))
    → ¬ IsAnsweredBy (refusing alone) lines answers image
