-- A round: what the desks of several cores answer to requests, each core on a thread of its own.
use Rattle.std.specs.Prelude.{ℕ, ℤ, ◌≡◌, ◌≢◌, ◌==◌, ◌+◌, ◌<◌, List, [], ◌∷◌, ◌++◌, filter, map, length}
use Rattle.std.specs.Prelude.{◌≤◌, true, take, slice_index_or, Result, Ok, Err}
use Rattle.std.specs.List.{All}
use Rattle.std.specs.declared.alloc.Global.{Global}
use Rattle.std.specs.declared.vec.Vec.{Vec}
use Rattle.frame_model.specs.declared.key.Key.{Key}
use Rattle.frame_table.specs.Closing.{lent_through}
use Rattle.frame_table.specs.declared.seats.CoreSeat.{CoreSeat}
use Rattle.frame_words.specs.declared.fault.Fault.{Fault}
use Rattle.frame_words.specs.declared.fault.Fault.TheVariants as fault
use Rattle.held_blocks.specs.Desk.{MayRefuse}
use Rattle.held_blocks.specs.declared.labelled_block.LabelledBlock.{LabelledBlock}
use Rattle.core_frames.specs.Cores.{memory_of, lent_by, seat_of}
use Rattle.core_frames.specs.Desks.{list_of, core_of, IsDeskOf}
use Rattle.core_frames.specs.declared.shared.allocator.Allocator.{Allocator}
use Rattle.core_frames.specs.declared.shared.desk.Desk.{Desk}
use Rattle.llfree_trace.specs.Outcome.{DeskStep, Moves, Runs}
use Rattle.trace_text.specs.declared.line.Line.{Line}
use Rattle.trace_text.specs.declared.line.Line.TheVariants as line
use Rattle.trace_text.specs.declared.line.Request.{Request}
use Rattle.llfree_trace.specs.declared.lines.Done.{Done}
use Rattle.llfree_trace.specs.declared.progress.Progress.{Progress}
use Rattle.trace_text.specs.declared.reply.Answer.{Answer}
use Rattle.trace_text.specs.declared.reply.Reply.{Reply}
use Rattle.trace_text.specs.declared.reply.Reply.TheVariants as reply
use Rattle.llfree_trace.specs.declared.rounds.Running.{Running}

-- Replies.

-- the reply that says what a take answered
abbrev pub taken_reply : Result (ℕ × ℕ) Fault → Reply
taken_reply (Ok b) = reply.Taken b.0 b.1
taken_reply (Err f) = reply.Refused f

-- the reply that says what a give answered
abbrev pub given_reply : Result (ℕ × ℕ) Fault → Reply
given_reply (Ok b) = reply.Given b.0 b.1
given_reply (Err f) = reply.Refused f

-- it says what the take answered, which did not want memory
abbrev pub IsTakenReply : Result (ℕ × ℕ) Fault → Reply → Type 0
IsTakenReply outcome r = (r ≡ taken_reply outcome) × (outcome ≢ Err fault.NoMemory)

-- Requests.

-- the record is a request
abbrev pub IsAsk : Line → Type 0
IsAsk (line.Ask core request) = Unit {0}
IsAsk _ = ⊥

-- the core of a request
abbrev pub ask_core : Line → ℕ
ask_core (line.Ask core request) = core
ask_core _ = 0

-- the record is no request of the core
abbrev pub IsNoAskOf : ℕ → Line → Type 0
IsNoAskOf core (line.Ask own request) = own ≢ core
IsNoAskOf core _ = Unit {0}

-- a request with its core and the number of its record
pub record Ask : Type 0 where
  pub number : ℕ
  pub core : ℕ
  pub request : Request

-- the requests of these records, the first of which has this number
unfoldable pub asks_from : ℕ → List Line → List Ask
asks_from number [] = []
asks_from number (line.Ask core request ∷ lines) =
    record { number = number; core = core; request = request } ∷ asks_from (number + 1) lines
asks_from number (_ ∷ lines) = asks_from (number + 1) lines

-- the requests of one core
abbrev pub asks_by : ℕ → List Ask → List Ask
asks_by core asks = filter (λ (k : Ask). k.core == core) asks

-- the answers of one core
abbrev pub answers_by : ℕ → List Answer → List Answer
answers_by core answers = filter (λ (a : Answer). a.core == core) answers

-- the number and the core of a request
abbrev pub ask_spot : Ask → ℕ × ℕ
ask_spot k = (k.number, k.core)

-- the number and the core that an answer names
abbrev pub spot : Answer → ℕ × ℕ
spot a = (a.line, a.core)

-- Runs of desks.

-- one answer to each request, each a step of the list
unfoldable pub DeskRun :
    Key → List LabelledBlock → List Ask → List Answer → List LabelledBlock → Type 0
DeskRun key old [] [] new = old ≡ new
DeskRun key old (ask ∷ asks) (a ∷ answers) new =
    (a.line ≡ ask.number) × (a.core ≡ ask.core)
    × (mid : List LabelledBlock) × DeskStep MayRefuse key old ask.request a.reply mid
    × DeskRun key mid asks answers new
DeskRun key old _ _ new = ⊥

-- records, the first of which has this number, may run from a desk of a sealed memory: each is a
-- request, and no number is too great
pub record MayRun (a : Allocator) (own : Desk) (first : ℕ) (records : List Line) : Type 0 where
  pub desk : IsDeskOf a own
  pub sealed : (memory_of a).sealed ≡ true
  pub asks : All IsAsk records
  pub few : first + length records ≤ 2_000_000

-- they may run from these desks
pub record MayRunAll (a : Allocator) (all : List Desk) (first : ℕ) (records : List Line) : Type 0 where
  pub desks : All (IsDeskOf a) all
  pub sealed : (memory_of a).sealed ≡ true
  pub asks : All IsAsk records
  pub few : first + length records ≤ 2_000_000

-- the requests of one core ran, from one desk to another that lends as many blocks
pub record Ran (a : Allocator) (core : ℕ) (old : Desk) (asks : List Ask) (done : Done) : Type 0 where
  pub desk : IsDeskOf a done.desk
  pub lent : lent_by (core_of done.desk) ≡ lent_by (core_of old)
  pub run : DeskRun (memory_of a) (list_of old) (asks_by core asks) done.answers.items
      (list_of done.desk)

-- the promise of a core's thread is that these records run so from this desk
pub record IsPromiseOf (a : Allocator) (own : ℕ) (desk : Desk) (number : ℕ) (records : List Line)
    (promise : Running) : Type 0 where
  pub allocator : promise.allocator.now ≡ a
  pub core : promise.core ≡ own
  pub was : promise.was.value ≡ desk
  pub first : promise.first ≡ number
  pub lines : promise.lines.now ≡ records

-- each desk of the list, from a core on, ran the requests of its core
abbrev pub RanAll : Allocator → ℕ → List Desk → List Ask → List Done → Type 0
RanAll a core [] asks [] = Unit {0}
RanAll a core (d ∷ desks) asks (e ∷ done) =
    Ran a core d asks e × RanAll a (core + 1) desks asks done
RanAll a core _ asks _ = ⊥

-- these were done first, and then this
pub record Follows (first : Result (Vec Done Global) Fault) (last : Result Done Fault) (all : List Done) : Type 0 where
  pub others : Vec Done Global
  pub done : Done
  pub is_first : first ≡ Ok others
  pub is_last : last ≡ Ok done
  pub is_all : all ≡ others.items ++ done ∷ []

-- each core has an answer to each of its requests
pub record Fitting (asks : List Ask) (done : List Done) : Type 0 where
  pub inside : (i : ℕ) (d : Ask) → i < length asks → (slice_index_or asks i d).core < length done
  pub fits : (k : ℕ) (d : Done) → k < length done
      → map spot (slice_index_or done k d).answers.items ≡ map ask_spot (asks_by k asks)

-- an answer to each request, in their order, and each core's are those that it gave
pub record Merged (asks : List Ask) (done : List Done) (answers : List Answer) : Type 0 where
  pub spots : map spot answers ≡ map ask_spot asks
  pub each : (k : ℕ) (d : Done) → k < length done
      → answers_by k answers ≡ (slice_index_or done k d).answers.items

-- the seats of the cores of these desks
abbrev pub seats_at : List Desk → List CoreSeat
seats_at desks = map seat_of (map core_of desks)

-- how many blocks more were handed out by the cores of these desks than they took in
abbrev pub lent_by_desks : List Desk → ℤ
lent_by_desks desks = lent_through (map (λ d. seat_of (core_of d)) desks)

-- a round: an answer to each request, in their order; each core's answers to its requests are a run
-- of its desk, and the desks lend together as many blocks as before
pub record RoundRan (a : Allocator) (old : List Desk) (asks : List Ask) (answers : List Answer)
    (new : List Desk) : Type 0 where
  pub spots : map spot answers ≡ map ask_spot asks
  pub width : length new ≡ length old
  pub desks : All (IsDeskOf a) new
  pub lent : lent_by_desks new ≡ lent_by_desks old
  pub runs : (k : ℕ) (d : Desk) → k < length old
      → DeskRun (memory_of a) (list_of (slice_index_or old k d)) (asks_by k asks)
      (answers_by k answers) (list_of (slice_index_or new k d))

-- Runs of all cores.

-- the record is no request
abbrev pub IsNoAsk : Line → Type 0
IsNoAsk (line.Ask core request) = ⊥
IsNoAsk _ = Unit {0}

-- the lists of desks
abbrev pub lists_at : List Desk → List (List LabelledBlock)
lists_at desks = map list_of desks

-- a move of the oldest block under a label between two desks, or inside one
pub record MovesAt (a : Allocator) (core : ℕ) (label : List ℕ) (to : ℕ) (r : Reply)
    (old new : List Desk) : Type 0 where
  pub moves : Moves (lists_at old) core label to r (lists_at new)
  pub desks : All (IsDeskOf a) new
  pub width : length new ≡ length old
  pub lent : lent_by_desks new ≡ lent_by_desks old

-- these records, the first of which has this number, were answered one after another by the desks,
-- which lend together as many blocks as before
pub record GoesOn (a : Allocator) (number : ℕ) (lines : List Line) (old new : Progress)
    : Type 0 where
  pub answers : List Answer
  pub grows : new.answers.items ≡ old.answers.items ++ answers
  pub runs : Runs MayRefuse (memory_of a) number (lists_at old.desks.items) lines answers
      (lists_at new.desks.items)
  pub desks : All (IsDeskOf a) new.desks.items
  pub width : length new.desks.items ≡ length old.desks.items
  pub lent : lent_by_desks new.desks.items ≡ lent_by_desks old.desks.items

-- the first of these records, so many and at least one, were answered so
pub record GoesOnBy (a : Allocator) (number : ℕ) (lines : List Line) (old new : Progress) (count : ℕ)
    : Type 0 where
  pub some : 0 < count
  pub within : count ≤ length lines
  pub goes : GoesOn a number (take count lines) old new
