-- What the records of a trace name.
use Rattle.std.specs.Prelude.{ℕ, ◌+◌, List, [], ◌∷◌, max}
use Rattle.std.specs.List.{flat_map}
use Rattle.trace_text.specs.declared.line.Line.{Line}
use Rattle.trace_text.specs.declared.line.Line.TheVariants as line

-- the most records of a trace
abbrev pub most_records : ℕ
most_records = 1_000_000

-- one more than the greatest core that a record names, or 0 where it names none
abbrev pub cores_in : Line → ℕ
cores_in (line.Ask core request) = core + 1
cores_in (line.Move core label to) = max core to + 1
cores_in line.Round = 0
cores_in (line.Reserve frame count) = 0

-- one more than the greatest core that a record names, or 0 where none names one
unfoldable pub core_count : List Line → ℕ
core_count [] = 0
core_count (line ∷ lines) = max (cores_in line) (core_count lines)

-- the range that a record holds back, if it is of that kind: a first frame, and how many frames
abbrev pub range_in : Line → List (ℕ × ℕ)
range_in (line.Reserve frame count) = (frame, count) ∷ []
range_in _ = []

-- the ranges that records hold back, in order
unfoldable pub ranges_in : List Line → List (ℕ × ℕ)
ranges_in lines = flat_map range_in lines
