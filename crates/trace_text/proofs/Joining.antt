-- The records that rows make, one behind the other.
use Rattle.std.proofs.Common.{◌≡◌, ◌+◌, ◌-◌, ◌<◌, ◌≤◌, ◌∙◌, ℕ, List, [], ◌∷◌, ◌++◌, Bool, true, false}
use Rattle.std.proofs.Common.{Option, Some, None, Result, Ok, ap, arith, add-zero, length, length-append, refl, sym}
use Rattle.std.specs.Prelude.{if◌then◌else◌, nat_lt, option_and_then, option_map}
use Rattle.std.proofs.lemmas.Bool.Decides.{nat_tests}
use Rattle.std.proofs.Math.Seq.{get_or-append_seam}
use Rattle.std.proofs.lemmas.List.{append-nil, append_assoc, length_push}
use Rattle.std.proofs.lemmas.Option.{slice_get-get_or}
use Rattle.frame_text.specs.Records.{after_record, read_records}
use Rattle.trace_text.specs.declared.line.Line.{Line}
use Rattle.trace_text.specs.Parts.{goes_behind}
use Rattle.trace_text.specs.Trace.{most_records}
use Rattle.trace_text.specs.TraceText.{last_line, line_after, line_of, lines_with, may_follow}
use Rattle.trace_text.proofs.Parsing.{read_more}

-- where a record was taken, what follows made the value
from_row : {S : Type 0} → (number : ℕ) (others : S → Result S ℕ) (found : Option S) (out : S)
    → after_record number others found ≡ Ok out → (next : S) × (found ≡ Some next) × (others next ≡ Ok out)
from_row number others None out e = cc
from_row number others (Some next) out e = (next, refl, e)

-- the rows of a front are read first, and then the others
read_front : {S : Type 0} → (step : S → List (List ℕ) → Option S) (number : ℕ) (made out : S)
    (rows more : List (List (List ℕ)))
    → read_records step number made rows ≡ Ok out
    → read_records step number made (rows ++ more) ≡ read_records step (number + length rows) out more
unfolding read_records
read_front step number made out [] more e =
    let same : made ≡ out = cc in
    rw (same, add-zero number) refl
read_front step number made out (row ∷ rows) more e =
    let first = from_row number (λ next. read_records step (number + 1) next rows) (step made row) out e in
    let others = read_front step (number + 1) first.0 out rows more first.2 in
    rw first.1 (others ∙ ap (λ n. read_records step n out more) (omega arith))

kept : (follows : Bool) (l line : Line) → (if follows then Some l else None) ≡ Some line → (l ≡ line) × (follows ≡ true)
kept true l line e = (cc, refl)
kept false l line e = cc

taken : (few : Bool) (before found : Option Line) (line : Line)
    → (if few then option_and_then (λ l. if may_follow before l then Some l else None) found else None) ≡ Some line
    → (found ≡ Some line) × (may_follow before line ≡ true)
taken false before found line e = cc
taken true before None line e = cc
taken true before (Some l) line e =
    let is = kept (may_follow before l) l line e in (
      ap Some is.0,
      ap (may_follow before) (sym is.0) ∙ is.1,
    )

-- what is known of a row that was taken for a record
was_taken : (cores : ℕ) (lines : List Line) (row : List (List ℕ)) (line : Line) → line_after cores lines row ≡ Some line
    → (line_of cores row ≡ Some line) × (may_follow (last_line lines) line ≡ true)
unfolding line_after
was_taken cores lines row line e =
    taken (nat_lt (length lines) most_records) (last_line lines) (line_of cores row) line e

-- a row that is a record, where it may follow, is taken for it
pub is_taken : (cores : ℕ) (lines : List Line) (row : List (List ℕ)) (line : Line) → length lines < most_records
    → line_of cores row ≡ Some line → may_follow (last_line lines) line ≡ true → Some line ≡ line_after cores lines row
unfolding line_after
is_taken cores lines row line few is follows =
    let less : nat_lt (length lines) most_records ≡ true = grind (arith, nat_tests) in
    rw (less, is, follows) refl

grown : (made next : List Line) (found : Option Line) → option_map (λ line. made ++ line ∷ []) found ≡ Some next
    → (line : Line) × (found ≡ Some line) × (next ≡ made ++ line ∷ [])
grown made next None e = cc
grown made next (Some line) e = (line, refl, cc)

-- a step that took a row
record Stepped (cores number : ℕ) (made out : List Line) (row : List (List ℕ)) (rows : List (List (List ℕ))) : Type 0 where
  pub line : Line
  pub is : line_of cores row ≡ Some line
  pub follows : may_follow (last_line made) line ≡ true
  pub others : read_records (lines_with cores) (number + 1) (made ++ line ∷ []) rows ≡ Ok out

stepped : (cores number : ℕ) (made out : List Line) (row : List (List ℕ)) (rows : List (List (List ℕ)))
    → read_records (lines_with cores) number made (row ∷ rows) ≡ Ok out → Stepped cores number made out row rows
unfolding read_records lines_with
stepped cores number made out row rows e =
    let first = from_row number (λ next. read_records (lines_with cores) (number + 1) next rows) (lines_with cores made row) out e in
    let more = grown made first.0 (line_after cores made row) first.1 in
    let is = was_taken cores made row more.0 more.1 in
    record { line = more.0; is = is.0; follows = is.1; others = rw more.2 at first.2 }

-- the records so far stay the first
begins : (cores number : ℕ) (made out : List Line) (rows : List (List (List ℕ)))
    → read_records (lines_with cores) number made rows ≡ Ok out → (more : List Line) × (out ≡ made ++ more)
unfolding read_records
begins cores number made out [] e =
    let same : made ≡ out = cc in
    ([], sym same ∙ sym (append-nil made))
begins cores number made out (row ∷ rows) e =
    let first = stepped cores number made out row rows e in
    let others = begins cores (number + 1) (made ++ first.line ∷ []) out rows first.others in
    (first.line ∷ others.0, others.1 ∙ append_assoc made (first.line ∷ []) others.0)

-- the last of records is the one that was put behind them
pub last_is : (lines : List Line) (line : Line) → last_line (lines ++ line ∷ []) ≡ Some line
last_is lines line =
    let less : length lines + 1 - 1 ≡ length lines = omega arith in
    rw (length_push lines line, less, slice_get-get_or (lines ++ line ∷ []) (length lines) line (omega (arith, length_push lines line)))
    (ap Some (get_or-append_seam lines line [] line))

-- behind other records that end alike, the same rows make the same records
read_behind : (cores number other : ℕ) (front made out : List Line) (rows : List (List (List ℕ)))
    → last_line (front ++ made) ≡ last_line made → length front + length out ≤ most_records
    → read_records (lines_with cores) number made rows ≡ Ok out
    → read_records (lines_with cores) other (front ++ made) rows ≡ Ok (front ++ out)
unfolding read_records
read_behind cores number other front made out [] alike few e =
    let same : made ≡ out = cc in
    rw same refl
read_behind cores number other front made out (row ∷ rows) alike few e =
    let first = stepped cores number made out row rows e in
    let long = begins cores (number + 1) (made ++ first.line ∷ []) out rows first.others in
    let room : length (front ++ made) < most_records =
    let sizes : length out ≡ length (made ++ first.line ∷ []) + length long.0 = ap length long.1 ∙ length-append _ long.0 in
    omega (arith, few, sizes, length_push made first.line, length-append front made) in
    let is = is_taken cores (front ++ made) row first.line room first.is (ap (λ b. may_follow b first.line) alike ∙ first.follows) in
    let ends : last_line (front ++ (made ++ first.line ∷ [])) ≡ last_line (made ++ first.line ∷ []) =
    rw (← append_assoc front made (first.line ∷ [])) (last_is (front ++ made) first.line ∙ sym (last_is made first.line)) in
    let others = read_behind cores (number + 1) (other + 1) front (made ++ first.line ∷ []) out rows ends few first.others in
    read_more cores other (front ++ made) row rows first.line is ∙ rw (append_assoc front made (first.line ∷ [])) others

-- the same where no record was made of them before, if the first may follow
read_anew : (cores number other : ℕ) (front out : List Line) (rows : List (List (List ℕ)))
    → goes_behind front out ≡ true → length front + length out ≤ most_records
    → read_records (lines_with cores) number [] rows ≡ Ok out
    → read_records (lines_with cores) other front rows ≡ Ok (front ++ out)
unfolding read_records
read_anew cores number other front out [] goes few e =
    let same : [] ≡ out = cc in
    rw (← same) (ap Ok (sym (append-nil front)))
read_anew cores number other front out (row ∷ rows) goes few e =
    let first = stepped cores number [] out row rows e in
    let long = begins cores (number + 1) (first.line ∷ []) out rows first.others in
    let follows : may_follow (last_line front) first.line ≡ true = rw long.1 at goes in
    let room : length front < most_records = omega (arith, few, ap length long.1) in
    let is = is_taken cores front row first.line room first.is follows in
    let others = read_behind cores (number + 1) (other + 1) front (first.line ∷ []) out rows (last_is front first.line ∙ sym (last_is [] first.line)) few first.others in
    read_more cores other front row rows first.line is ∙ others

-- the records of two parts, one behind the other
pub read_both : (cores : ℕ) (front behind : List Line) (rows more : List (List (List ℕ)))
    → read_records (lines_with cores) 1 [] rows ≡ Ok front → read_records (lines_with cores) 1 [] more ≡ Ok behind
    → goes_behind front behind ≡ true → length front + length behind ≤ most_records
    → read_records (lines_with cores) 1 [] (rows ++ more) ≡ Ok (front ++ behind)
read_both cores front behind rows more first second goes few =
    read_front (lines_with cores) 1 [] front rows more first
    ∙ read_anew cores 1 (1 + length rows) front behind more goes few second
