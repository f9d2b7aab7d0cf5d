use Rattle.std.proofs.Common.{◌-◌, ◌∷◌, ◌∙◌, [], replicate, arith}
use Rattle.llfree_trace.proofs.Running.{blocks_of_one, first_list, may_runs, none_lawful}
use Rattle.llfree_trace.proofs.one_core.run_one.Goals as goal

pub run_records-requires-clause-lawful : goal.run_records-requires-clause-lawful
run_records-requires-clause-lawful c = rw c.in_ok-desk.ensures.empty (none_lawful _)

-- what the list and the image say at the end
pub returns-clause-exact : goal.returns-clause-exact
returns-clause-exact c =
    let opened = c.in_ok-desk.ensures in
    let ran = c.in_ok-answers.ensures in
    let desk = c.run_records.new.desk in
    let others = replicate (c.args.geometry.cores - 1) [] in
    let begun = rw (opened.empty, opened.geometry.0, opened.geometry.1, c.ranges-2.ensures, c.lines.ensures.value) at (ran.run others) in
    let same = ran.memory.0 ∙ opened.geometry.0 in
    let ranges = ran.memory.1 ∙ opened.geometry.1 ∙ c.ranges-2.ensures in
    let key = c.in_ok-image.ensures.geometry ∙ same in
    let alone = blocks_of_one desk.list (c.args.geometry.cores - 1) in
    record {
      lists = desk.list ∷ others;
      runs = rw (key, first_list c.args.geometry.cores (omega arith)) begun;
      disjoint = rw (key, alone) (rw (same, ranges) at ran.lawful);
      holds = rw (key, alone) (rw (same, ranges) at c.in_ok-image.ensures.holds);
    }

pub returns-clause-fits : goal.returns-clause-fits
returns-clause-fits c =
    let exact = returns-clause-exact c in
    record {
      lists = exact.lists;
      runs = may_runs _ 1 _ _ _ _ exact.runs;
      disjoint = exact.disjoint;
      holds = exact.holds;
    }

pub returns-clause-counters : goal.returns-clause-counters
returns-clause-counters c =
    let opened = c.in_ok-desk.ensures in
    let ran = c.in_ok-answers.ensures in
    let same = ran.memory.0 ∙ opened.geometry.0 in
    let ranges = ran.memory.1 ∙ opened.geometry.1 ∙ c.ranges-2.ensures in
    rw (c.in_ok-image.ensures.geometry ∙ same) (rw (same, ranges) at c.in_ok-image.ensures.counters)
