-- What a text says as a trace.
use Rattle.std.specs.Prelude.{ℕ, ◌+◌, ◌^◌, ◌≡◌, ◌≤◌, ◌==◌, ◌-◌, ◌&&◌, Bool, true, false, List, [], ◌∷◌, ◌++◌}
use Rattle.std.specs.Prelude.{length, nat_lt, slice_get, codes, unwrap_or}
use Rattle.std.specs.Prelude.{Option, Some, None, option_map, option_and_then, Result, Err}
use Rattle.std.specs.Prelude.{if◌then◌else◌}
use Rattle.std.specs.Str.{bytes_eq}
use Rattle.held_blocks.specs.Label.{label_of}
use Rattle.frame_text.specs.Numbers.{number_below}
use Rattle.frame_text.specs.Records.{read_records, records_of}
use Rattle.frame_words.specs.declared.fault.Fault.{Fault}
use Rattle.frame_words.specs.declared.fault.Fault.TheVariants as fault
use Rattle.trace_text.specs.Trace.{core_count, most_records, ranges_in}
use Rattle.trace_text.specs.declared.line.Line.{Line}
use Rattle.trace_text.specs.declared.line.Line.TheVariants as line
use Rattle.trace_text.specs.declared.line.Request.{Request}
use Rattle.trace_text.specs.declared.line.Request.TheVariants as request

-- a take under a label, of an order
unfoldable pub take_of : List ℕ → List ℕ → Option Request
take_of label order =
    option_and_then (λ l. option_map (λ o. request.Take l o) (number_below 256 order))
    (label_of label)

-- a give of the oldest block under a label, with nothing behind it
unfoldable pub give_of : List ℕ → List ℕ → Option Request
give_of label nothing =
    if length nothing == 0 then option_map (λ l. request.Give l) (label_of label) else None

-- a give of exactly one block
unfoldable pub give_at_of : List ℕ → List ℕ → Option Request
give_at_of frame order =
    option_and_then (λ f. option_map (λ o. request.GiveAt f o) (number_below 256 order))
    (number_below (2 ^ 32) frame)

-- what a record asks for, by its last three fields
unfoldable pub request_of : List ℕ → List ℕ → List ℕ → Option Request
request_of word third fourth =
    if bytes_eq word (codes "take") then take_of third fourth
    else if bytes_eq word (codes "give") then give_of third fourth
    else if bytes_eq word (codes "giveat") then give_at_of third fourth
    else None

-- the end of a round, with nothing beside the word
unfoldable pub round_of : List ℕ → List ℕ → List ℕ → Option Line
round_of core third fourth =
    if (length core == 0) && (length third == 0) && (length fourth == 0) then Some line.Round
    else None

-- a range that is held back, for no core
unfoldable pub reserve_of : List ℕ → List ℕ → List ℕ → Option Line
reserve_of core frame count =
    if length core == 0 then
    option_and_then (λ f. option_map (λ n. line.Reserve f n) (number_below (2 ^ 32) count))
    (number_below (2 ^ 32) frame)
    else None

-- a move of the oldest block under a label from one core to another
unfoldable pub move_of : ℕ → List ℕ → List ℕ → List ℕ → Option Line
move_of cores core label to =
    option_and_then (λ k. option_and_then (λ l. option_map (λ m. line.Move k l m)
    (number_below cores to)) (label_of label)) (number_below cores core)

-- a core and what it asks for
unfoldable pub ask_of : ℕ → List ℕ → List ℕ → List ℕ → List ℕ → Option Line
ask_of cores core word third fourth =
    option_and_then (λ k. option_map (λ r. line.Ask k r) (request_of word third fourth))
    (number_below cores core)

-- a record, by its four fields
unfoldable pub record_of : ℕ → List ℕ → List ℕ → List ℕ → List ℕ → Option Line
record_of cores core word third fourth =
    if bytes_eq word (codes "round") then round_of core third fourth
    else if bytes_eq word (codes "reserve") then reserve_of core third fourth
    else if bytes_eq word (codes "move") then move_of cores core third fourth
    else ask_of cores core word third fourth

-- a record of a trace has four fields
unfoldable pub line_of : ℕ → List (List ℕ) → Option Line
line_of cores (core ∷ word ∷ third ∷ fourth ∷ []) = record_of cores core word third fourth
line_of cores _ = None

-- a range may be held back behind this record: it holds one back itself
abbrev pub is_reserve : Line → Bool
is_reserve (line.Reserve frame count) = true
is_reserve _ = false

-- a block may be moved behind this record: it ends a round or moves a block itself
abbrev pub is_between_rounds : Line → Bool
is_between_rounds line.Round = true
is_between_rounds (line.Move core label to) = true
is_between_rounds _ = false

-- the record may come straight behind that one, or first where there is none: ranges are held back
-- before all else, and blocks are moved between two rounds
unfoldable pub may_follow : Option Line → Line → Bool
may_follow before (line.Reserve frame count) = unwrap_or (option_map is_reserve before) true
may_follow before (line.Move core label to) = unwrap_or (option_map is_between_rounds before) false
may_follow before _ = true

-- the last of the records, if there are any
abbrev pub last_line : List Line → Option Line
last_line lines = slice_get lines (length lines - 1)

-- the record behind those so far; none comes behind the most
unfoldable pub line_after : ℕ → List Line → List (List ℕ) → Option Line
line_after cores lines row =
    if nat_lt (length lines) most_records
    then option_and_then (λ l. if may_follow (last_line lines) l then Some l else None)
    (line_of cores row)
    else None

-- these records, and then the one that a row is
unfoldable pub lines_with : ℕ → List Line → List (List ℕ) → Option (List Line)
lines_with cores lines row =
    option_map (λ line. lines ++ line ∷ []) (line_after cores lines row)

-- what a text says as a trace for so many cores, by the records that `csv` reads from it: the
-- trace, or the number of the lowest refused record
unfoldable pub trace_of : ℕ → List ℕ → Result (List Line) ℕ
trace_of cores text = read_records (lines_with cores) 1 [] (records_of text)

-- what the text says is what these records and then these rows say; the records are few enough, name only
-- the cores, so many of them, and hold these ranges back
pub record IsReadTo (cores : ℕ) (text : List ℕ) (lines : List Line) (ranges : List (ℕ × ℕ)) (count : ℕ)
    (rows : List (List (List ℕ))) : Type 0 where
  pub says : trace_of cores text ≡ read_records (lines_with cores) (length lines + 1) lines rows
  pub few : length lines ≤ most_records
  pub within : core_count lines ≤ cores
  pub holds : ranges ≡ ranges_in lines
  pub named : count ≡ core_count lines

-- why a trace was not read: memory ran out, or this is the number of the lowest refused record
abbrev pub ExplainsTrace : Fault → Result (List Line) ℕ → Type 0
ExplainsTrace fault.NoMemory read = Unit {0}
ExplainsTrace (fault.BadTrace line) read = read ≡ Err line
ExplainsTrace _ read = ⊥
