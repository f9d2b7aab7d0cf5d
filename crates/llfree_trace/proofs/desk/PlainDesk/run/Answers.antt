use Rattle.llfree_trace.proofs.Running.{asked, moved, step_lawful}
use Rattle.llfree_trace.proofs.desk.PlainDesk.run.Goals as goal

pub returns-in_ok-reply-in-Ask-clause-run : goal.returns-in_ok-reply-in-Ask-clause-run
returns-in_ok-reply-in-Ask-clause-run c = λ others.
    let made = c.answer_to.ensures in
    let first = rw c.in-Ask.is at c.requires.core in
    rw c.in-Ask.is
    (asked _ _ c.args.number c.in-Ask.core _ _ c.in-Ask.request c.answer_to.result others first made.line made.core
    c.requires.lawful (rw made.reply c.in_ok-reply-in-Ask.ensures.step))

pub returns-in_ok-reply-in-Move-clause-run : goal.returns-in_ok-reply-in-Move-clause-run
returns-in_ok-reply-in-Move-clause-run c = λ others.
    let made = c.answer_to-in-Move.ensures in
    let first = rw c.in-Move.is at c.requires.core in
    let same = c.in_ok-reply-in-Move.ensures.memory in
    let lawful = rw (same.0, same.1) at c.in_ok-reply-in-Move.ensures.lawful in
    rw c.in-Move.is
    (moved _ _ c.args.number c.in-Move.core c.in-Move.label c.in-Move.to _ _ c.answer_to-in-Move.result others first made.line made.core
    lawful (rw made.reply (c.in_ok-reply-in-Move.ensures.step others)))

pub returns-in_ok-reply-in-Ask-clause-lawful : goal.returns-in_ok-reply-in-Ask-clause-lawful
returns-in_ok-reply-in-Ask-clause-lawful c =
    let same = c.in_ok-reply-in-Ask.ensures.memory in
    rw (same.0, same.1)
    (step_lawful _ _ _ c.in-Ask.request _ _ c.requires.lawful c.in_ok-reply-in-Ask.ensures.step)
