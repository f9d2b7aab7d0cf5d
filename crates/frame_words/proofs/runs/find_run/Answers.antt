-- The lowest bit that is left is the lowest run.
use Rattle.std.proofs.Common.{arith}
use Rattle.frame_words.proofs.RunLemmas.{run_none, run_lowest}
use Rattle.frame_words.proofs.runs.find_run.Goals as goal

pub returns-then-starts-eq0-clause-none : goal.returns-then-starts-eq0-clause-none
returns-then-starts-eq0-clause-none c =
    run_none c.args.word c.args.order c.clear_from.result c.starts_of.result c.clear_from.ensures c.starts_of.ensures c.if-starts-eq0.true

pub returns-clause-found : goal.returns-clause-found
returns-clause-found c =
    run_lowest c.args.word c.args.order c.clear_from.result c.starts_of.result c.clear_from.ensures c.starts_of.ensures
    (omega arith) c.if-starts-eq0.false
