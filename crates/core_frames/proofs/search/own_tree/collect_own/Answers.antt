use Rattle.std.proofs.Common.{arith}
use Rattle.low_frames.specs.Bounds.{attempt}
use Rattle.low_frames.specs.Takes.{IsAsBefore}
use Rattle.core_frames.specs.Bounds.{most_to_refund, most_to_collect}
use Rattle.core_frames.proofs.Carried.{refunded_idle}
use Rattle.core_frames.proofs.SearchSteps.{brings_both, brings_within, may_refund}
use Rattle.core_frames.proofs.search.own_tree.collect_own.Goals as goal

pub try_collect-requires : goal.try_collect-requires
try_collect-requires g c = record { tree = c.requires.tree; idle = c.requires.idle }

pub refund-requires : goal.refund-requires
refund-requires g c =
    let m = g.M.Moves.at c.args.m.now in
    may_refund m (g.M.Moves.at c.try_collect.new.m) c.args.tree c.in-Some.free m.view.reserving
    m.view.lent c.in-Some.ensures.keeps.same_key c.requires.tree c.requires.idle
    c.in-Some.ensures.view c.args.core c.requires.core

pub returns-in_default : goal.returns-in_default
returns-in_default g c = brings_within g.met.M.Moves.ticks attempt most_to_collect (omega arith) c.in_default.ensures

pub returns : goal.returns
returns g c =
    let M = g.M.Moves in
    let m = M.at c.args.m.now in
    brings_both g.met.M.Moves.ticks IsAsBefore attempt most_to_refund most_to_collect (omega arith) c.in-Some.ensures c.refund.ensures
    (refunded_idle m.view (M.at c.try_collect.new.m).view (M.at c.refund.new.m).view c.args.tree c.in-Some.free c.requires.idle
    c.in-Some.ensures.view c.refund.ensures.view)
