use Rattle.std.proofs.Common.{◌≡◌, Ok, length, rules}
use Rattle.llfree_trace.specs.Rounds.{asks_from}
use Rattle.llfree_trace.proofs.Workers.{follow_ran, front_desks, none_ran}
use Rattle.llfree_trace.proofs.rounds.+run_cores.Goals as goal

pub start-requires-clause-run : goal.start-requires-clause-run
start-requires-clause-run g t c κs within =
    let all = c.requires.all in
    let desk = (front_desks _ _ _ _ c.in-Some.ensures.items all.desks).1 in
    record { desk = desk; sealed = all.sealed; asks = all.asks; few = all.few }

pub run_cores-others-requires-clause-all : goal.run_cores-others-requires-clause-all
run_cores-others-requires-clause-all g t c κs within =
    let all = c.requires.all in
    let desks = (front_desks _ _ _ _ c.in-Some.ensures.items all.desks).0 in
    record { desks = desks; sealed = all.sealed; asks = all.asks; few = all.few }

pub returns-then-not-has_lines-clause-ran : goal.returns-then-not-has_lines-clause-ran
returns-then-not-has_lines-clause-ran g t c =
    let core = c.len-core.result in
    let place : core ≡ length c.pop.new.self.items = search rules in
    let desk = (front_desks _ _ _ _ c.in-Some.ensures.items c.requires.all.desks).1 in
    let one = none_ran c.args.allocator.now core c.args.first c.args.lines.now c.in-Some.desk _ desk c.if-not-has_lines.ensures
    c.idle.ensures.desk c.idle.ensures.answers in
    follow_ran _ _ _ (asks_from c.args.first c.args.lines.now) core _ _ (Ok c.idle.result) c.followed.result c.in-Some.ensures.items place
    c.run_cores-others.ensures.ran one c.followed.ensures.all

pub returns-clause-ran : goal.returns-clause-ran
returns-clause-ran g t c =
    let core = c.len-core.result in
    let place : core ≡ length c.pop.new.self.items = search rules in
    let is = c.in_ok-child.ensures.promise in
    let one = rw (is.allocator, is.core, is.was, is.first, is.lines) at c.join.ensures.0 in
    follow_ran _ _ _ (asks_from c.args.first c.args.lines.now) core _ _ c.join.result c.followed-2.result c.in-Some.ensures.items place
    c.run_cores-others-2.ensures.ran one c.followed-2.ensures.all
