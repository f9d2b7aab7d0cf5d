use Rattle.std.proofs.Common.{◌≡◌, ◌++◌, take}
use Rattle.trace_text.specs.AnswerText.{answer_rows_text}
use Rattle.trace_text.proofs.answers.add_answers.Given as goal

abbrev pub invariant-loop-answer : goal.invariant-loop-answer
invariant-loop-answer l = l.text ≡ l.fn.text ++ answer_rows_text (take l.answer-index l.answers)
