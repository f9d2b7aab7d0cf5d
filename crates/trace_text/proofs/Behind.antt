-- What records and answers say, with others behind them.
use Rattle.std.proofs.Common.{◌≡◌, ◌≤◌, ◌<◌, ◌∙◌, ℕ, List, [], ◌∷◌, ◌++◌, length, get_or, max, zero, suc, ap, arith}
use Rattle.std.proofs.lemmas.Grind.{flat_map-append}
use Rattle.std.proofs.lemmas.List.{append-nil}
use Rattle.csv.specs.Writing.{default_writer, row_text}
use Rattle.trace_text.specs.AnswerText.{answer_row, answer_rows_text}
use Rattle.trace_text.specs.declared.line.Line.{Line}
use Rattle.trace_text.specs.declared.reply.Answer.{Answer}
use Rattle.trace_text.specs.Trace.{core_count, cores_in, range_in, ranges_in}

-- the text of answers
pub answer_rows_both : (front behind : List Answer) → answer_rows_text (front ++ behind) ≡ answer_rows_text front ++ answer_rows_text behind
unfolding answer_rows_text
answer_rows_both front behind = flat_map-append (λ a. row_text default_writer (answer_row a)) front behind

-- the cores that records name
pub core_count_both : (front behind : List Line) → core_count (front ++ behind) ≡ max (core_count front) (core_count behind)
unfolding core_count
core_count_both [] behind = omega arith
core_count_both (line ∷ front) behind = omega (arith, core_count_both front behind)

pub core_count_more : (lines : List Line) (line : Line)
    → core_count (lines ++ line ∷ []) ≡ max (cores_in line) (core_count lines)
unfolding core_count
core_count_more lines line = omega (arith, core_count_both lines (line ∷ []))

-- none names more cores than all together
pub cores_in_at : (lines : List Line) (i : ℕ) (d : Line) → i < length lines
    → cores_in (get_or lines i d) ≤ core_count lines
unfolding core_count
cores_in_at [] i d h = absurd (omega arith)
cores_in_at (x ∷ lines) zero d h = omega arith
cores_in_at (x ∷ lines) (suc i) d h = omega (arith, cores_in_at lines i d (omega arith))

-- the ranges that they hold back
pub ranges_in_both : (front behind : List Line) → ranges_in (front ++ behind) ≡ ranges_in front ++ ranges_in behind
unfolding ranges_in
ranges_in_both front behind = flat_map-append range_in front behind

pub ranges_in_more : (lines : List Line) (line : Line)
    → ranges_in (lines ++ line ∷ []) ≡ ranges_in lines ++ range_in line
unfolding ranges_in
ranges_in_more lines line =
    ranges_in_both lines (line ∷ [])
    ∙ ap (λ (t : List (ℕ × ℕ)). ranges_in lines ++ t) (append-nil (range_in line))
