use Rattle.std.proofs.Common.{◌<◌, arith}
use Rattle.frame_zones.specs.Zones.{zone_count}
use Rattle.frame_zones.proofs.Looked.{search_on, found_there, searched_all, few_moves}
use Rattle.frame_zones.proofs.Rounds.{stay_on}
use Rattle.frame_zones.proofs.zones.Zones.look_for_run.Goals as goal

pub returns-in-Some-clause-core : goal.returns-in-Some-clause-core
returns-in-Some-clause-core c =
    stay_on c.args.self.now c.args.core.now c.loop-zone.core c.look_for_run_in.new.core c.loop-zone.invariant.stay
    c.look_for_run_in.ensures.core

pub returns-in-Some-clause-looks : goal.returns-in-Some-clause-looks
returns-in-Some-clause-looks c =
    let within : c.loop-zone.zone < zone_count c.args.self.now = omega (arith, c.loop-zone-test.true, c.len-zone-end.ensures) in
    found_there c.args.self.now c.args.count c.args.from c.loop-zone.zone c.in-Some.frame c.args.core.now c.loop-zone.core
    c.look_for_run_in.new.core (omega (arith, c.if-count-lt1.false)) (omega (arith, c.if-count-gt-MOST_IN_RUN.false)) within
    c.loop-zone.invariant c.in-Some.ensures.looks

pub returns-in-Some-clause-all_moves : goal.returns-in-Some-clause-all_moves
returns-in-Some-clause-all_moves c =
    few_moves c.args.self.now c.args.core.now c.look_for_run_in.new.core c.requires c.look_for_run_in.ensures.core.are_cores
    (returns-in-Some-clause-looks c).each

pub loop-zone-preserved : goal.loop-zone-preserved
loop-zone-preserved c =
    let within : c.loop-zone.zone < zone_count c.args.self.now = omega (arith, c.loop-zone-test.true, c.len-zone-end.ensures) in
    search_on c.args.self.now c.args.count c.args.from c.loop-zone.zone c.args.core.now c.loop-zone.core c.look_for_run_in.new.core
    within c.loop-zone.invariant c.look_for_run_in.ensures.core c.in_default.ensures.looks

pub returns-clause-looks : goal.returns-clause-looks
returns-clause-looks c =
    searched_all c.args.self.now c.args.count c.args.from c.loop-zone.zone c.args.core.now c.loop-zone.core
    (omega (arith, c.loop-zone-test.false, c.loop-zone.auto.zone-end, c.len-zone-end.ensures)) c.loop-zone.invariant

pub returns-clause-all_moves : goal.returns-clause-all_moves
returns-clause-all_moves c =
    few_moves c.args.self.now c.args.core.now c.loop-zone.core c.requires c.loop-zone.invariant.stay.are_cores
    (returns-clause-looks c).each
