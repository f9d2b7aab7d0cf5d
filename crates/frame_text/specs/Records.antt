-- The records that `csv` reads from a text without a header, taken one after another.
use Rattle.std.specs.Prelude.{◌≡◌, ℕ, ◌+◌, Bool, false, List, [], ◌∷◌, length}
use Rattle.std.specs.Prelude.{Option, Some, None, unwrap_or, Result, Ok, Err}
use Rattle.std.specs.Borrow.{Bor}
use Rattle.csv.specs.Reading.{Ready, default_config, records, records_from, source_of, strip_bom}
use Rattle.csv.specs.Writing.{default_writer, fields_written, has_written, writer_setup}
use Rattle.csv.specs.declared.reader.Reader.{Reader}
use Rattle.csv.specs.declared.reader.Trim.TheVariants as trim
use Rattle.csv.specs.declared.writer.Writer.{Writer}

-- the records of a text, each a list of fields
abbrev pub records_of : List ℕ → List (List (List ℕ))
records_of text = records default_config (strip_bom text)

-- what follows a record that made a value, or the number of a record that was refused
abbrev pub after_record : {S : Type 0} → ℕ → (S → Result S ℕ) → Option S → Result S ℕ
after_record number others None = Err number
after_record number others (Some made) = others made

-- what a step makes of a value with each of these records in turn, the first of which has this
-- number, or the number of the first record that the step refuses
unfoldable pub read_records : {S : Type 0} → (S → List (List ℕ) → Option S) → ℕ → S
    → List (List (List ℕ)) → Result S ℕ
read_records step number made [] = Ok made
read_records step number made (row ∷ rows) =
    after_record number (λ next. read_records step (number + 1) next rows) (step made row)

-- a writer with csv's defaults that stands between two records
pub record IsBetween {W : Type 0} (w : Writer W) : Type 0 where
  pub setup : writer_setup w ≡ default_writer
  pub none : fields_written w ≡ 0
  pub nothing : has_written w ≡ false

-- the records that are left of a text, and whether a call was refused
pub record RecordsLeft : Type 0 where
  pub rows : List (List (List ℕ))
  pub failed : Bool

-- the bytes that a reader over memory has left
abbrev pub bytes_left : Reader (Bor (List ℕ)) → List ℕ
bytes_left r = unwrap_or (source_of (λ s. Some s.now) r) []

-- the records that a reader over memory has left
unfoldable pub records_left : Reader (Bor (List ℕ)) → List (List (List ℕ))
records_left r = records_from default_config (length (bytes_left r) + 1) r.state (bytes_left r)

-- a reader over memory, with csv's defaults and no header
pub record IsReading (r : Reader (Bor (List ℕ))) : Type 0 where
  pub trim : r.trim ≡ trim.None
  pub ready : Ready r
  pub config : r.config ≡ default_config
  pub known : source_of (λ s. Some s.now) r ≡ Some (bytes_left r)
