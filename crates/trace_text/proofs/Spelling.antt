-- The text of records reads as these records.
use Rattle.std.specs.Prelude.{◌≤◌, codes, decimal, replicate, ⊤}
use Rattle.std.specs.List.{All}
use Rattle.std.proofs.Common.{◌≡◌, ◌∙◌, ◌<◌, ◌+◌, ◌%◌, ◌^◌, ◌∷◌, ◌++◌, [], ℕ, zero, suc, List, Option, None, Some, Ok, ap, append_assoc, append-nil, arith, false, length, refl, sym, true}
use Rattle.std.proofs.lemmas.Bool.{ne_eqb}
use Rattle.std.proofs.lemmas.Fmt.{decimal_by_steps}
use Rattle.std.proofs.lemmas.List.{get_or-replicate, length_push, length-append, length-replicate}
use Rattle.std.proofs.lemmas.List.Folds.{list_any-append}
use Rattle.std.proofs.lemmas.List.Elements.{All-cons, All-head, All-nil, All-tail}
use Rattle.std.specs.Fmt.{digits}
use Rattle.csv.specs.Machine.{next_record}
use Rattle.csv.specs.Reading.{default_config, records, records_from, strip_bom}
use Rattle.csv.specs.Writing.{default_writer, fields_text, is_blank, needs_byte, needs_quotes, read_back, row_text}
use Rattle.frame_words.specs.Geometry.{most_cores}
use Rattle.held_blocks.specs.Label.{is_label, is_label_byte, label_of}
use Rattle.frame_text.specs.Records.{read_records, records_of}
use Rattle.frame_text.proofs.NumberLemmas.{number_below-decimal}
use Rattle.trace_text.specs.Spelling.{AreMost, IsRecord, IsSampleSpelled, IsTraceFor, TracesReadBack, fields_of, long_label, sample, spelled}
use Rattle.trace_text.specs.Trace.{most_records}
use Rattle.trace_text.specs.TraceText.{ask_of, give_at_of, give_of, last_line, line_of, lines_with, may_follow, move_of}
use Rattle.trace_text.specs.TraceText.{record_of, request_of, reserve_of, round_of, take_of, trace_of}
use Rattle.trace_text.specs.declared.line.Line.{Line}
use Rattle.trace_text.specs.declared.line.Line.TheVariants as line
use Rattle.trace_text.specs.declared.line.Request.TheVariants as request
use Rattle.frame_text.proofs.ReadBack.{row_first}
use Rattle.trace_text.proofs.Cutting.{no_mark}
use Rattle.trace_text.proofs.Joining.{is_taken, last_is}
use Rattle.trace_text.proofs.Parsing.{read_all, read_more}

-- a digit calls for no quotes
digit_is_plain : (d : ℕ) → needs_byte default_writer (48 + d) ≡ false
digit_is_plain d =
    let comma = ne_eqb (48 + d) 44 (λ e. omega arith) in
    let quote = ne_eqb (48 + d) 34 (λ e. omega arith) in
    let feed = ne_eqb (48 + d) 10 (λ e. omega arith) in
    let back = ne_eqb (48 + d) 13 (λ e. omega arith) in
    rw (comma, quote, feed, back) refl

-- a number calls for no quotes
number_is_plain : (n : ℕ) → n < 2 ^ 64 → needs_quotes default_writer (decimal n) ≡ false
number_is_plain n small =
    decimal_by_steps (λ m ds. needs_quotes default_writer ds ≡ false) (λ m low. rw (digit_is_plain m) refl)
    (λ m ds high before. rw (list_any-append (needs_byte default_writer) ds ((48 + m % 10) ∷ []), before, digit_is_plain (m % 10)) refl)
    n small

-- a text that begins with a number begins with no byte order mark
number_first : (n : ℕ) → n < 2 ^ 64 → (behind : List ℕ) → strip_bom (decimal n ++ behind) ≡ decimal n ++ behind
number_first n small =
    decimal_by_steps (λ m ds. (behind : List ℕ) → strip_bom (ds ++ behind) ≡ ds ++ behind)
    (λ m low behind. no_mark (48 + m) behind (λ e. omega arith))
    (λ m ds high before behind.
    rw (append_assoc ds ((48 + m % 10) ∷ []) behind) (before ((48 + m % 10) ∷ behind)))
    n small

-- nor one that begins with a record whose first field is a number
row_with_number : (n : ℕ) → n < 2 ^ 64 → (b c d behind : List ℕ)
    → strip_bom (row_text default_writer (decimal n ∷ b ∷ c ∷ d ∷ []) ++ behind)
    ≡ row_text default_writer (decimal n ∷ b ∷ c ∷ d ∷ []) ++ behind
unfolding is_blank
row_with_number n small b c d behind =
    let e : row_text default_writer (decimal n ∷ b ∷ c ∷ d ∷ []) ++ behind
    ≡ decimal n ++ (fields_text default_writer (b ∷ c ∷ d ∷ []) ++ (10 ∷ behind)) =
    rw (number_is_plain n small) (simp append_assoc) in
    rw e (number_first n small _)

-- a record of a trace is read as itself, by its fields
line_read : (cores : ℕ) (line : Line) → cores ≤ most_cores → IsRecord cores line → line_of cores (fields_of line) ≡ Some line
unfolding IsRecord fields_of line_of record_of ask_of move_of reserve_of round_of request_of take_of give_of give_at_of label_of
line_read cores (line.Ask core (request.Take label order)) few is =
    rw (
      number_below-decimal cores core is.0 (omega (arith, few, is.0)),
      is.1,
      number_below-decimal 256 order is.2 (omega (arith, is.2)),
    ) refl
line_read cores (line.Ask core (request.Give label)) few is =
    rw (number_below-decimal cores core is.0 (omega (arith, few, is.0)), is.1) refl
line_read cores (line.Ask core (request.GiveAt frame order)) few is =
    rw (
      number_below-decimal cores core is.0 (omega (arith, few, is.0)),
      number_below-decimal (2 ^ 32) frame is.1 (omega (arith, is.1)),
      number_below-decimal 256 order is.2 (omega (arith, is.2)),
    ) refl
line_read cores (line.Move core label to) few is =
    rw (
      number_below-decimal cores core is.0 (omega (arith, few, is.0)),
      is.1,
      number_below-decimal cores to is.2 (omega (arith, few, is.2)),
    ) refl
line_read cores line.Round few is = refl
line_read cores (line.Reserve frame count) few is =
    rw (
      number_below-decimal (2 ^ 32) frame is.0 (omega (arith, is.0)),
      number_below-decimal (2 ^ 32) count is.1 (omega (arith, is.1)),
    ) refl

-- no record begins with a byte order mark
row_unmarked : (cores : ℕ) (line : Line) (behind : List ℕ) → cores ≤ most_cores → IsRecord cores line
    → strip_bom (row_text default_writer (fields_of line) ++ behind) ≡ row_text default_writer (fields_of line) ++ behind
unfolding IsRecord fields_of is_blank fields_text
row_unmarked cores (line.Ask core (request.Take label order)) behind few is =
    row_with_number core (omega (arith, few, is.0)) (codes "take") label (decimal order) behind
row_unmarked cores (line.Ask core (request.Give label)) behind few is =
    row_with_number core (omega (arith, few, is.0)) (codes "give") label [] behind
row_unmarked cores (line.Ask core (request.GiveAt frame order)) behind few is =
    row_with_number core (omega (arith, few, is.0)) (codes "giveat") (decimal frame) (decimal order) behind
row_unmarked cores (line.Move core label to) behind few is =
    row_with_number core (omega (arith, few, is.0)) (codes "move") label (decimal to) behind
row_unmarked cores line.Round behind few is = no_mark 44 _ (λ e. omega arith)
row_unmarked cores (line.Reserve frame count) behind few is = no_mark 44 _ (λ e. omega arith)

-- so no text of records does
text_unmarked : (cores : ℕ) (lines : List Line) → cores ≤ most_cores → All (IsRecord cores) lines
    → strip_bom (spelled lines) ≡ spelled lines
unfolding spelled strip_bom
text_unmarked cores [] few each = refl
text_unmarked cores (line ∷ lines) few each = row_unmarked cores line (spelled lines) few (All-head (IsRecord cores) line lines each)

-- the row of a record is read as it was written
row_read : (line : Line) → read_back (fields_of line) ≡ fields_of line
unfolding fields_of
row_read (line.Ask core (request.Take label order)) = refl
row_read (line.Ask core (request.Give label)) = refl
row_read (line.Ask core (request.GiveAt frame order)) = refl
row_read (line.Move core label to) = refl
row_read line.Round = refl
row_read (line.Reserve frame count) = refl

-- the first record of a text of records, and those behind it
first_of_text : (cores : ℕ) (line : Line) (lines : List Line) → cores ≤ most_cores → All (IsRecord cores) (line ∷ lines)
    → records_of (spelled (line ∷ lines)) ≡ fields_of line ∷ records_of (spelled lines)
unfolding spelled
first_of_text cores line lines few each =
    rw (text_unmarked cores (line ∷ lines) few each, text_unmarked cores lines few (All-tail (IsRecord cores) line lines each))
    (row_first (fields_of line) (spelled lines) ∙ ap (λ row. row ∷ records default_config (spelled lines)) (row_read line))

-- nothing has no records
none_in_nothing : records_of [] ≡ []
unfolding strip_bom records_from next_record
none_in_nothing = refl

-- records behind others are read to their end
read_to_end : (cores : ℕ) (lines front behind : List Line) → cores ≤ most_cores → IsTraceFor cores lines
    → lines ≡ front ++ behind → All (IsRecord cores) behind
    → read_records (lines_with cores) (length front + 1) front (records_of (spelled behind)) ≡ Ok lines
unfolding spelled
read_to_end cores lines front [] few trace whole each =
    rw (none_in_nothing, whole, append-nil front) (read_all cores (length front + 1) front)
read_to_end cores lines front (line ∷ behind) few trace whole each =
    let room : length front < most_records =
    omega (arith, trace.few, ap (λ (t : List Line). length t) whole, length-append front (line ∷ behind)) in
    let is = line_read cores line few (All-head (IsRecord cores) line behind each) in
    let goes = is_taken cores front (fields_of line) line room is (trace.order front behind line whole) in
    let more = read_more cores (length front + 1) front (fields_of line) (records_of (spelled behind)) line goes in
    let others = read_to_end cores lines (front ++ line ∷ []) behind few trace
    (whole ∙ sym (append_assoc front (line ∷ []) behind)) (All-tail (IsRecord cores) line behind each) in
    rw (first_of_text cores line behind few each) (more ∙ (rw (length_push front line) at others))

-- the text of each trace reads as that trace
pub traces_read_back : TracesReadBack
unfolding trace_of
traces_read_back cores lines few trace = read_to_end cores lines [] lines few trace refl trace.each

-- each record may come behind the one before it, the first behind this one
abbrev InOrder : Option Line → List Line → Type 0
InOrder before [] = ⊤
InOrder before (line ∷ lines) = (may_follow before line ≡ true) × InOrder (Some line) lines

-- so it may wherever records are cut
goes_there : (done lines front behind : List Line) (l : Line) → InOrder (last_line done) lines → lines ≡ front ++ l ∷ behind
    → may_follow (last_line (done ++ front)) l ≡ true
goes_there done [] front behind l order e =
    absurd (omega (arith, ap (λ (t : List Line). length t) e, length-append front (l ∷ behind)))
goes_there done (x ∷ lines) [] behind l order e =
    let same : x ≡ l = cc in
    rw (append-nil done, ← same) order.0
goes_there done (x ∷ lines) (y ∷ front) behind l order e =
    let same : x ≡ y = cc in
    let rest : lines ≡ front ++ l ∷ behind = cc in
    rw (← append_assoc done (y ∷ []) front)
    (goes_there (done ++ y ∷ []) lines front behind l (rw (last_is done y, ← same) order.1) rest)

-- ends of rounds may come behind any record
rounds_in_order : (n : ℕ) (before : Option Line) → InOrder before (replicate n line.Round)
unfolding may_follow
rounds_in_order zero before = tt
rounds_in_order (suc n) before = (refl, rounds_in_order n (Some line.Round))

-- they are a trace, if there are few enough
rounds_are : (n : ℕ) → n ≤ most_records → IsTraceFor 1 (replicate n line.Round)
unfolding IsRecord
rounds_are n few = record {
  few = rw (length-replicate n line.Round) few;
  each = λ i d lt. rw (get_or-replicate n i line.Round d (rw (length-replicate n line.Round) at lt)) tt;
  order = λ front behind l e. goes_there [] (replicate n line.Round) front behind l (rounds_in_order n None) e;
}

-- the bound is this number
pub are_most : AreMost
are_most = record {
  most = rounds_are 1_000_000 (omega arith);
  one_more = λ cores lines many trace. omega (arith, many, trace.few);
}

-- the sample may stand as it does
sample_in_order : InOrder None sample
unfolding may_follow
sample_in_order = (refl, (refl, (refl, (refl, (refl, (refl, tt))))))

-- each of its records is one
each_of_sample : All (IsRecord 64) sample
unfolding IsRecord is_label is_label_byte
each_of_sample =
    let P : Line → Type 0 = IsRecord 64 in
    let a : Line = line.Reserve 4_294_967_295 4_294_967_295 in
    let b : Line = line.Ask 63 (request.Take long_label 255) in
    let d : Line = line.Ask 63 (request.Give long_label) in
    let e : Line = line.Ask 63 (request.GiveAt 4_294_967_295 255) in
    let f : Line = line.Move 63 long_label 0 in
    let range : P a = (omega arith, omega arith) in
    let take : P b = (omega arith, refl, omega arith) in
    let give : P d = (omega arith, refl) in
    let give_at : P e = (omega arith, omega arith, omega arith) in
    let move : P f = (omega arith, refl, omega arith) in
    All-cons P a (b ∷ d ∷ e ∷ line.Round ∷ f ∷ []) range
    (All-cons P b (d ∷ e ∷ line.Round ∷ f ∷ []) take
    (All-cons P d (e ∷ line.Round ∷ f ∷ []) give
    (All-cons P e (line.Round ∷ f ∷ []) give_at
    (All-cons P line.Round (f ∷ []) tt (All-cons P f [] move (All-nil P))))))

-- the sample is a trace, and has this text
pub sample_is_spelled : IsSampleSpelled
unfolding spelled fields_of fields_text is_blank digits
sample_is_spelled = record {
  lawful = record {
    few = omega arith;
    each = each_of_sample;
    order = λ front behind l e. goes_there [] sample front behind l sample_in_order e;
  };
  text = refl;
}
