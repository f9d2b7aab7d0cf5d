-- How a trace is spelled.
use Rattle.std.specs.Prelude.{ℕ, ◌^◌, ◌≡◌, ◌≤◌, ◌<◌, ◌++◌, true, List, [], ◌∷◌, codes, decimal, length, replicate, Ok}
use Rattle.std.specs.List.{All, flat_map}
use Rattle.csv.specs.Writing.{default_writer, row_text}
use Rattle.frame_words.specs.Geometry.{most_cores}
use Rattle.held_blocks.specs.Label.{is_label}
use Rattle.trace_text.specs.Parts.{line_feed}
use Rattle.trace_text.specs.Trace.{most_records}
use Rattle.trace_text.specs.TraceText.{last_line, may_follow, trace_of}
use Rattle.trace_text.specs.declared.line.Line.{Line}
use Rattle.trace_text.specs.declared.line.Line.TheVariants as line
use Rattle.trace_text.specs.declared.line.Request.TheVariants as request

-- the four fields of a record: a core, a word, and what the word asks for; what it does not ask for is empty
unfoldable pub fields_of : Line → List (List ℕ)
fields_of (line.Ask core (request.Take label order)) = decimal core ∷ codes "take" ∷ label ∷ decimal order ∷ []
fields_of (line.Ask core (request.Give label)) = decimal core ∷ codes "give" ∷ label ∷ [] ∷ []
fields_of (line.Ask core (request.GiveAt frame order)) = decimal core ∷ codes "giveat" ∷ decimal frame ∷ decimal order ∷ []
fields_of (line.Move core label to) = decimal core ∷ codes "move" ∷ label ∷ decimal to ∷ []
fields_of line.Round = [] ∷ codes "round" ∷ [] ∷ [] ∷ []
fields_of (line.Reserve frame count) = [] ∷ codes "reserve" ∷ decimal frame ∷ decimal count ∷ []

-- the text of records: what `csv` writes of each, one after another
unfoldable pub spelled : List Line → List ℕ
spelled lines = flat_map (λ l. row_text default_writer (fields_of l)) lines

-- the cores of a record are among so many, its label is one, and its numbers are in range
unfoldable pub IsRecord : ℕ → Line → Type 0
IsRecord cores (line.Ask core (request.Take label order)) = (core < cores) × (is_label label ≡ true) × (order < 256)
IsRecord cores (line.Ask core (request.Give label)) = (core < cores) × (is_label label ≡ true)
IsRecord cores (line.Ask core (request.GiveAt frame order)) = (core < cores) × (frame < 2 ^ 32) × (order < 256)
IsRecord cores (line.Move core label to) = (core < cores) × (is_label label ≡ true) × (to < cores)
IsRecord cores line.Round = Unit {0}
IsRecord cores (line.Reserve frame count) = (frame < 2 ^ 32) × (count < 2 ^ 32)

-- the records are a trace for so many cores: each is a record, may come behind those before it, and they are
-- not too many
pub record IsTraceFor (cores : ℕ) (lines : List Line) : Type 0 where
  pub few : length lines ≤ most_records
  pub each : All (IsRecord cores) lines
  pub order : (front behind : List Line) (line : Line) → lines ≡ front ++ line ∷ behind
      → may_follow (last_line front) line ≡ true

-- the text of each trace reads as that trace
abbrev pub TracesReadBack : Type 0
TracesReadBack =
    (cores : ℕ) (lines : List Line) → cores ≤ most_cores → IsTraceFor cores lines
    → trace_of cores (spelled lines) ≡ Ok lines

-- a label of 16 bytes
abbrev pub long_label : List ℕ
long_label = codes "09_azAZ-09_azAZ-"

-- a record of each kind, with the greatest numbers and a label of most bytes
abbrev pub sample : List Line
sample =
    line.Reserve 4_294_967_295 4_294_967_295 ∷ line.Ask 63 (request.Take long_label 255)
    ∷ line.Ask 63 (request.Give long_label) ∷ line.Ask 63 (request.GiveAt 4_294_967_295 255)
    ∷ line.Round ∷ line.Move 63 long_label 0 ∷ []

-- the text of these records
abbrev pub sample_text : List ℕ
sample_text = codes ",reserve,4294967295,4294967295" ++ line_feed
    ∷ (codes "63,take,09_azAZ-09_azAZ-,255" ++ line_feed
    ∷ (codes "63,give,09_azAZ-09_azAZ-," ++ line_feed
    ∷ (codes "63,giveat,4294967295,255" ++ line_feed
    ∷ (codes ",round,," ++ line_feed
    ∷ (codes "63,move,09_azAZ-09_azAZ-,0" ++ line_feed ∷ [])))))

-- these six records are a trace for 64 cores, and are spelled so
pub record IsSampleSpelled : Type 0 where
  pub lawful : IsTraceFor 64 sample
  pub text : spelled sample ≡ sample_text

-- 1,000,000 records may be a trace, and no more
pub record AreMost : Type 0 where
  pub most : IsTraceFor 1 (replicate 1_000_000 line.Round)
  pub one_more : (cores : ℕ) (lines : List Line) → length lines ≡ 1_000_001 → ¬ IsTraceFor cores lines
