use Rattle.std.proofs.Common.{◌≡◌, ◌+◌, [], take, drop, length, refl, arith, rules}
use Rattle.std.proofs.Math.Seq.{take-add}
use Rattle.std.proofs.lemmas.List.{length-take}
use Rattle.llfree_trace.specs.Outcome.{Runs}
use Rattle.llfree_trace.proofs.GoingOn.{goes_both, goes_unanswered, rest_of}
use Rattle.llfree_trace.proofs.progress.run_rounds.Goals as goal

pub loop-done-init : goal.loop-done-init
unfolding Runs
loop-done-init g c = record {
  within = omega arith;
  goes = goes_unanswered c.args.allocator.now 1 [] c.args.start c.requires.desks refl;
}

pub loop-done-preserved : goal.loop-done-preserved
loop-done-preserved g c =
    let lines = c.args.lines.now in
    let done = c.loop-done.done in
    let inv = c.loop-done.invariant in
    let next : 1 + length (take done lines) ≡ done + 1 = omega (arith, length-take done lines, inv.within) in
    record {
      within = search rules;
      goes = rw (take-add done c.in_ok-next.count lines)
          (goes_both c.args.allocator.now 1 (done + 1) (take done lines) (take c.in_ok-next.count (drop done lines)) c.args.start
          c.loop-done.progress c.in_ok-next.next next inv.goes
          (rw (c.number_after-number.ensures, rest_of done lines) at c.in_ok-next.ensures.goes.goes));
    }
