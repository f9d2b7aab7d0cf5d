-- How a trace grows by one record.
use Rattle.std.proofs.Common.{◌≡◌, ◌∙◌, ◌+◌, ◌<◌, ◌≤◌, ℕ, List, [], ◌∷◌, ◌++◌, length, max, Some, None, Ok, Err, arith, refl}
use Rattle.std.proofs.lemmas.List.{length_push}
use Rattle.frame_text.specs.Records.{read_records, records_of}
use Rattle.trace_text.specs.Trace.{core_count, cores_in, most_records, range_in, ranges_in}
use Rattle.trace_text.specs.declared.line.Line.{Line}
use Rattle.trace_text.specs.TraceText.{IsReadTo, line_after, lines_with, trace_of}
use Rattle.trace_text.proofs.Behind.{core_count_more, ranges_in_more}

-- a row that is a record goes behind those so far
pub read_more : (cores number : ℕ) (lines : List Line) (row : List (List ℕ)) (rows : List (List (List ℕ))) (line : Line)
    → Some line ≡ line_after cores lines row
    → read_records (lines_with cores) number lines (row ∷ rows)
    ≡ read_records (lines_with cores) (number + 1) (lines ++ line ∷ []) rows
unfolding read_records lines_with
read_more cores number lines row rows line e = rw (← e) refl

-- a row that is none is refused
pub read_refused : (cores number : ℕ) (lines : List Line) (row : List (List ℕ)) (rows : List (List (List ℕ)))
    → None ≡ line_after cores lines row
    → read_records (lines_with cores) number lines (row ∷ rows) ≡ Err number
unfolding read_records lines_with
read_refused cores number lines row rows e = rw (← e) refl

-- where no row is left the records so far are all
pub read_all : (cores number : ℕ) (lines : List Line)
    → read_records (lines_with cores) number lines [] ≡ Ok lines
unfolding read_records
read_all cores number lines = refl

-- a row that is a record goes behind the records that a text was read to
pub reads_more : (cores : ℕ) (text : List ℕ) (lines : List Line) (ranges : List (ℕ × ℕ)) (count : ℕ)
    (row : List (List ℕ)) (rows : List (List (List ℕ))) (line : Line)
    → IsReadTo cores text lines ranges count (row ∷ rows) → Some line ≡ line_after cores lines row
    → cores_in line ≤ cores → length lines < most_records
    → IsReadTo cores text (lines ++ line ∷ []) (ranges ++ range_in line) (max (cores_in line) count) rows
reads_more cores text lines ranges count row rows line so_far is inside few =
    record {
      says = so_far.says ∙ rw (length_push lines line) (read_more cores (length lines + 1) lines row rows line is);
      few = rw (length_push lines line) (omega (arith, few));
      within = rw (core_count_more lines line) (omega (arith, inside, so_far.within));
      holds = rw (ranges_in_more lines line, so_far.holds) refl;
      named = rw (so_far.named, core_count_more lines line) refl;
    }

-- no record is read of a text yet
pub reads_none : (cores : ℕ) (text : List ℕ) → IsReadTo cores text [] [] 0 (records_of text)
unfolding trace_of core_count ranges_in
reads_none cores text = record { says = refl; few = omega arith; within = omega arith; holds = refl; named = refl }
