use Rattle.std.proofs.Common.{◌≡◌, ◌+◌, ◌<◌, ◌≤◌, ◌∙◌, refl, sym, arith, length, get_or, add-zero, ap}
use Rattle.std.proofs.lemmas.List.{take_all}
use Rattle.core_frames.specs.Cores.{memory_of}
use Rattle.core_frames.specs.Desks.{list_of}
use Rattle.llfree_trace.specs.Rounds.{Ask, DeskRun, asks_from}
use Rattle.trace_text.specs.declared.line.Request.TheVariants as request
use Rattle.llfree_trace.proofs.Workers.{ask_count, ask_is, ask_other, line_ran, line_skipped}
use Rattle.llfree_trace.proofs.lines.run_lines.Goals as goal
use Rattle.llfree_trace.proofs.lines.run_lines.Goals.{in-Some+in_ok-answer+in_ok-push, in_default}

pub loop-line-init : goal.loop-line-init
unfolding DeskRun
loop-line-init g c = rw c.new-answers.ensures.items (c.requires.desk, refl, sym (add-zero c.args.first), refl)

pub loop-line-preserved : goal.loop-line-preserved
loop-line-preserved g c =
    let inv = c.loop-line.invariant in
    let core = c.args.core in
    let i = c.loop-line.line-index in
    let lines = c.args.lines.now in
    let item = c.line-item.result in
    let all = c.requires.asks in
    let asks = asks_from c.args.first lines in
    let old = list_of c.args.desk in
    let mid = list_of c.loop-line.desk in
    let told = c.loop-line.answers.items in
    let key = memory_of c.args.allocator.now in
    let lt = c.loop-line-test.true in
    let within : i < length asks = omega (arith, ask_count c.args.first lines all, lt) in
    let d : Ask = record { number = 0; core = 0; request = request.GiveAt 0 0 } in
    let next : c.loop-line.number + 1 ≡ c.args.first + (i + 1) = omega (arith, inv.2) in
    elim c.match-request_of.branch [
      | in-Some+in_ok-answer+in_ok-push w ↦
          let own = w.in-Some.request.now in
          let is = w.in_ok-answer.ensures in
          let here : get_or asks i d ≡ record { number = c.args.first + i; core = core; request = own } =
          ask_is c.args.first lines i item d core own all lt (sym c.line-item.is ∙ w.in-Some.ensures.some) in
          let number = is.place.0 ∙ (inv.2 ∙ sym (ap (λ (k : Ask). k.number) here)) in
          let asked : own ≡ (get_or asks i d).request = sym (ap (λ (k : Ask). k.request) here) in
          let run = line_ran core asks i d key old told mid (list_of w.answer_at.new.desk) _ inv.3 within
          (ap (λ (k : Ask). k.core) here) number is.place.1 (rw asked at is.step) in
          rw (w.desk-is, w.answers-is, w.in_ok-push.ensures.items)
          (w.answer_at.ensures.desk, w.answer_at.ensures.lent ∙ inv.1, next, run)
      | in_default w ↦
          let other = ask_other c.args.first lines i item d core all lt
          (rw c.line-item.is at w.in_default.ensures.none) in
          let run = line_skipped core asks i d key old told mid inv.3 within other in
          rw (w.desk-is, w.answers-is) (inv.0, inv.1, next, run)
    ]

pub returns-clause-ran : goal.returns-clause-ran
returns-clause-ran g c =
    let inv = c.loop-line.invariant in
    let asks = asks_from c.args.first c.args.lines.now in
    let ended : length asks ≤ c.loop-line.line-index =
    omega (arith, ask_count c.args.first c.args.lines.now c.requires.asks, c.loop-line-test.false) in
    record { desk = inv.0; lent = inv.1; run = rw (take_all c.loop-line.line-index asks ended) at inv.3 }
