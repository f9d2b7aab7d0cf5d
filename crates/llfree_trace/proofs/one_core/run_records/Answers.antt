use Rattle.std.proofs.Common.{◌≡◌, ◌+◌, ◌++◌, ◌∙◌, length, take, true, refl, arith, rules}
use Rattle.std.specs.Result.{is_ok}
use Rattle.std.specs.Option.{option_to_list}
use Rattle.std.proofs.lemmas.List.{append-nil, length-take, take_all, take_more}
use Rattle.llfree_trace.specs.Outcome.{Runs}
use Rattle.trace_text.proofs.Behind.{cores_in_at}
use Rattle.llfree_trace.proofs.Running.{renumbered, runs_append}
use Rattle.llfree_trace.proofs.one_core.run_records.Goals as goal
use Rattle.llfree_trace.proofs.one_core.run_records.Goals.{in-Some+in_ok-push, in_default}

pub loop-line-init : goal.loop-line-init
unfolding Runs
loop-line-init c = rw c.new-answers.ensures.items (record {
  runs = λ others. refl;
  lawful = c.requires.lawful;
  count = refl;
  memory = (refl, refl);
})

pub run-requires-clause-core : goal.run-requires-clause-core
run-requires-clause-core c =
    let i = c.loop-line.line-index in
    let named = rw (← c.line-item.is) at (cores_in_at c.args.lines.now i c.line-item.result c.loop-line-test.true) in
    omega (arith, named, c.requires.core)

pub loop-line-preserved : goal.loop-line-preserved
loop-line-preserved c =
    let inv = c.loop-line.invariant in
    let i = c.loop-line.line-index in
    let lines = c.args.lines.now in
    let more = take_more lines i c.line-item.result c.loop-line-test.true in
    let size = length-take i lines in
    let same = c.in_ok-answer.ensures.memory in
    let grown : c.match-branch-2.answers.items ≡ c.loop-line.answers.items ++ option_to_list c.in_ok-answer.field-0 =
    elim c.match-branch-2.branch [
      | in-Some+in_ok-push w ↦
          let good : is_ok w.push.result ≡ true = search rules in
          let items = rw good at w.push.ensures.items in
          rw (w.answers-is, items, w.in-Some.is) refl
      | in_default w ↦ rw (w.answers-is, w.in_default.is, append-nil) refl
    ] in
    let count : c.loop-line.number + 1 ≡ 1 + length (take i lines) = omega arith in
    record {
      runs = λ others.
          let next = rw (inv.memory.0, inv.memory.1) at (c.in_ok-answer.ensures.run others) in
          rw (more, ← c.line-item.is, grown)
          (runs_append _ _ 1 _ (take i lines) c.loop-line.answers.items _ _ _ _ (inv.runs others) (renumbered _ _ _ _ _ _ _ _ count next));
      lawful = c.in_ok-answer.ensures.lawful;
      count = omega arith;
      memory = (same.0 ∙ inv.memory.0, same.1 ∙ inv.memory.1);
    }

pub returns-clause-run : goal.returns-clause-run
returns-clause-run c = λ others.
    rw (take_all c.loop-line.line-index c.args.lines.now c.loop-line-test.false) at (c.loop-line.invariant.runs others)
