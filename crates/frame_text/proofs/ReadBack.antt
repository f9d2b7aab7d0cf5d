-- The records that csv writes are the records that csv reads.
use Rattle.std.proofs.Common.{◌≡◌, ◌∙◌, ℕ, List, [], ◌∷◌, ◌++◌, map, refl, ap, sym}
use Rattle.std.specs.List.{flat_map}
use Rattle.csv.proofs.RoundTrip.{read-write}
use Rattle.csv.specs.Machine.{next_record}
use Rattle.csv.specs.Reading.{default_config, records, records_from}
use Rattle.csv.specs.Writing.{default_writer, read_back, row_text}
use Rattle.csv.specs.declared.parser.State.TheVariants as st
use Rattle.frame_text.proofs.Reading.{rows_are_records, rows_next}

-- a text that begins with what the default writer makes of a record has that record first
pub row_first : (row : List (List ℕ)) (behind : List ℕ)
    → records default_config (row_text default_writer row ++ behind) ≡ read_back row ∷ records default_config behind
row_first row behind =
    let text = row_text default_writer row ++ behind in
    rw (rows_are_records text, rows_are_records behind)
    (sym (rw (read-write row behind) at (rows_next st.StartRecord [] [] text)))

-- records, each written by the default writer, read back
pub records_of_rows : (rows : List (List (List ℕ)))
    → records default_config (flat_map (row_text default_writer) rows) ≡ map read_back rows
unfolding records_from next_record
records_of_rows [] = refl
records_of_rows (row ∷ rows) =
    row_first row (flat_map (row_text default_writer) rows)
    ∙ ap (λ (t : List (List (List ℕ))). read_back row ∷ t) (records_of_rows rows)
