use Rattle.std.proofs.Common.{◌≡◌, ◌+◌, ◌*◌, ◌++◌, length}
use Rattle.std.specs.List.{flat_map}
use Rattle.trace_text.specs.AnswerText.{answer_rows_text}
use Rattle.trace_text.proofs.answer_parts.write_parts.Given as goal

abbrev pub invariant-loop-rest : goal.invariant-loop-rest
invariant-loop-rest g l =
    answer_rows_text l.answers
    ≡ l.text.items ++ (flat_map (λ h. answer_rows_text h.promise.answers.now) l.going.items ++ answer_rows_text l.rest)

abbrev pub decreases-loop-rest : goal.decreases-loop-rest
decreases-loop-rest g l = length l.rest * 2 + length l.going.items
