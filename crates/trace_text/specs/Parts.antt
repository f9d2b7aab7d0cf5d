-- A text that is read as a trace in parts.
use Rattle.std.specs.Prelude.{ℕ, ◌≡◌, ◌≢◌, ◌≤◌, ◌-◌, ◌⊎◌, ◌++◌, Bool, true, List, [], ◌∷◌, length, slice_index, Ok}
use Rattle.std.specs.List.{All, flat_map}
use Rattle.csv.specs.Reading.{strip_bom}
use Rattle.trace_text.specs.Trace.{core_count, most_records}
use Rattle.trace_text.specs.TraceText.{last_line, may_follow, trace_of}
use Rattle.trace_text.specs.declared.line.Line.{Line}
use Rattle.trace_text.specs.declared.parts.Reading.{Reading}

-- the byte that quotes a field
abbrev pub quote : ℕ
quote = 34

-- the byte that ends a line
abbrev pub line_feed : ℕ
line_feed = 10

-- the text has no quote, and says this trace for so many cores
pub record SaysPlainly (cores : ℕ) (text : List ℕ) (lines : List Line) : Type 0 where
  pub plain : All (λ c. c ≢ quote) text
  pub says : trace_of cores text ≡ Ok lines
  pub within : core_count lines ≤ cores

-- a text is cut behind a line feed, and not in front of a byte order mark
pub record IsCut (text front behind : List ℕ) : Type 0 where
  pub whole : text ≡ front ++ behind
  pub long : 3 ≤ length front
  pub ended : slice_index front (length front - 1) ≡ line_feed
  pub unmarked : strip_bom behind ≡ behind

-- the first of these records, if there is one, may come straight behind the others
abbrev pub goes_behind : List Line → List Line → Bool
goes_behind front [] = true
goes_behind front (line ∷ lines) = may_follow (last_line front) line

-- the records of two parts, one behind the other, are a trace if each is
pub record IsJoint (front behind lines : List Line) : Type 0 where
  pub is : lines ≡ front ++ behind
  pub few : length lines ≤ most_records
  pub goes : goes_behind front behind ≡ true

-- the promise of a part's thread is about this text
pub record IsReadingOf (number : ℕ) (part : List ℕ) (promise : Reading) : Type 0 where
  pub cores : promise.cores ≡ number
  pub text : promise.text.now ≡ part

-- a part ends in a line feed and begins with no byte order mark
pub record IsPart (part : List ℕ) : Type 0 where
  pub long : 3 ≤ length part
  pub ended : slice_index part (length part - 1) ≡ line_feed
  pub unmarked : strip_bom part ≡ part

-- a thread promises to read such a part
pub record ReadsPart (number : ℕ) (promise : Reading) : Type 0 where
  pub cores : promise.cores ≡ number
  pub part : IsPart promise.text.now

-- what was read of a text is nothing, or ends in a line feed
abbrev pub EndsLine : List ℕ → Type 0
EndsLine done = (done ≡ []) ⊎ ((3 ≤ length done) × (slice_index done (length done - 1) ≡ line_feed))

-- the text begins with one that says this trace; then come the parts that threads promise to read,
-- and then the rest
pub record IsReadSoFar (cores : ℕ) (text : List ℕ) (lines : List Line) (going : List Reading)
    (rest : List ℕ) : Type 0 where
  pub done : List ℕ
  pub whole : text ≡ done ++ (flat_map (λ (p : Reading). p.text.now) going ++ rest)
  pub says : SaysPlainly cores done lines
  pub ended : EndsLine done
  pub parts : All (ReadsPart cores) going
  pub unmarked : strip_bom rest ≡ rest
