use Rattle.std.proofs.Common.{◌≡◌, ◌∙◌, ap, arith, get_or, length}
use Rattle.llfree_trace.specs.Rounds.{asks_from}
use Rattle.llfree_trace.specs.declared.lines.Done.{Done}
use Rattle.llfree_trace.proofs.Merging.{ends, merge_on, room_at, turn_of}
use Rattle.llfree_trace.proofs.Workers.{ask_count}
use Rattle.llfree_trace.proofs.merge.merge.Goals as goal

pub bounds-done-core : goal.bounds-done-core
bounds-done-core c =
    let turn = turn_of c.args.first c.args.lines.now c.loop-line.line-index c.line-item.result c.core_of-core.result
    c.args.done.now c.requires.asks c.loop-line-test.true c.line-item.is c.core_of-core.ensures c.requires.fit in
    turn.low

pub next_answer-answer-requires-clause-core : goal.next_answer-answer-requires-clause-core
next_answer-answer-requires-clause-core c =
    let turn = turn_of c.args.first c.args.lines.now c.loop-line.line-index c.line-item.result c.core_of-core.result
    c.args.done.now c.requires.asks c.loop-line-test.true c.line-item.is c.core_of-core.ensures c.requires.fit in
    omega (arith, turn.low, c.loop-line.invariant.width, c.loop-line.used.ok)

pub next_answer-answer-requires-clause-left : goal.next_answer-answer-requires-clause-left
next_answer-answer-requires-clause-left c =
    let own = c.index-done-core.result in
    let turn = turn_of c.args.first c.args.lines.now c.loop-line.line-index c.line-item.result c.core_of-core.result
    c.args.done.now c.requires.asks c.loop-line-test.true c.line-item.is c.core_of-core.ensures c.requires.fit in
    let room = room_at (asks_from c.args.first c.args.lines.now) c.args.done.now c.loop-line.line-index
    c.loop-line.used.items c.loop-line.all.items own c.core_of-core.result c.requires.fit c.loop-line.invariant turn in
    rw (c.as_slice.ensures.value, c.index-done-core.is) room

pub loop-line-preserved : goal.loop-line-preserved
loop-line-preserved c =
    let own = c.index-done-core.result in
    let answer = c.next_answer-answer.result in
    let used = c.loop-line.used.items in
    let core = c.core_of-core.result in
    let turn = turn_of c.args.first c.args.lines.now c.loop-line.line-index c.line-item.result core
    c.args.done.now c.requires.asks c.loop-line-test.true c.line-item.is c.core_of-core.ensures c.requires.fit in
    let found = rw c.as_slice.ensures.value at c.next_answer-answer.ensures.answer in
    let in_done = ap (λ (e : Done). get_or e.answers.items (get_or used core 0) answer) c.index-done-core.is in
    rw (c.next_answer-answer.ensures.used, c.in_ok-push.ensures.items)
    (merge_on (asks_from c.args.first c.args.lines.now) c.args.done.now c.loop-line.line-index used
    c.loop-line.all.items own core answer c.requires.fit c.loop-line.invariant turn (found ∙ in_done))

pub returns-clause-merged : goal.returns-clause-merged
returns-clause-merged c =
    let asks = asks_from c.args.first c.args.lines.now in
    let last : c.loop-line.line-index ≡ length asks =
    omega (
      arith,
      ask_count c.args.first c.args.lines.now c.requires.asks,
      c.loop-line-test.false,
      c.loop-line.auto.line-index-end,
    ) in
    ends asks c.args.done.now c.loop-line.used.items c.loop-line.all.items c.requires.fit
    (rw last at c.loop-line.invariant)
