use Rattle.std.proofs.Common.{◌+◌, ◌*◌, ◌∙◌, arith}
use Rattle.low_frames.specs.Bounds.{attempt}
use Rattle.low_frames.specs.Takes.{IsAsBefore}
use Rattle.low_frames.proofs.TakeLemmas.{still_as_before}
use Rattle.core_frames.proofs.Carried.{idle_still, can_collect, collected}
use Rattle.core_frames.proofs.KeptFrames.{upper_tree}
use Rattle.core_frames.proofs.SureSteps.{read_here, known_load}
use Rattle.core_frames.proofs.SearchSteps.{load_brings, try_brings, brings_within}
use Rattle.core_frames.proofs.search.attempts.try_collect.Goals as goal

pub collect-requires : goal.collect-requires
collect-requires g c =
    let M = g.M.Moves in
    let v = (M.at c.args.m.now).view in
    let u = (M.at c.loop-i.m).view in
    let w = (M.at c.load-seen.new.self).view in
    let before : IsAsBefore v w = still_as_before v u w (M.tick u.moves) u.lost c.loop-i.invariant.brings.view c.load-seen.ensures.view in
    record {
      share = (idle_still v w c.requires.idle before).share;
      seen = read_here c.load-seen.ensures;
      may = can_collect (M.at c.load-seen.new.self).key (M.at c.args.m.now).key v w c.args.tree
          (c.load-seen.ensures.keeps.same_key ∙ c.loop-i.invariant.brings.keeps.same_key) c.requires.tree c.requires.idle before;
    }

pub returns-then-collect : goal.returns-then-collect
returns-then-collect g c =
    let M = g.M.Moves in
    let ticks = g.met.M.Moves.ticks in
    let m = M.at c.args.m.now in
    let x = M.at c.collect.new.self in
    let i = c.loop-i._i in
    let still = g.met.M.Moves.stays_alone c.loop-i.m in
    let was = c.loop-i.invariant.brings in
    let loads = load_brings ticks (2 * i) (2 * i + 1) (omega arith) still was c.load-seen.ensures in
    try_brings ticks _ (2 * i + 1) attempt (omega (arith, c.loop-i-test.true)) (g.met.M.Moves.stays_alone c.load-seen.new.self)
    (upper_tree m.key c.args.tree c.requires.tree) loads
    (known_load still was.sure c.load-seen.ensures) c.collect.ensures
    (collected M.tick m.view (M.at c.load-seen.new.self).view x.view loads.view c.args.tree c.load-seen.result c.tree_free-free.result
    c.requires.idle.paid c.tree_free-free.ensures.value c.if-collect.ensures.view)

pub returns : goal.returns
returns g c =
    brings_within g.met.M.Moves.ticks (2 * c.loop-i._i) attempt (omega (arith, c.loop-i.auto._i-end)) c.loop-i.invariant.brings

pub loop-i-preserved : goal.loop-i-preserved
loop-i-preserved g c =
    let M = g.M.Moves in
    let ticks = g.met.M.Moves.ticks in
    let m = M.at c.args.m.now in
    let w = M.at c.load-seen.new.self in
    let x = M.at c.collect.new.self in
    let i = c.loop-i._i in
    let still = g.met.M.Moves.stays_alone c.loop-i.m in
    let was = c.loop-i.invariant.brings in
    let loads = load_brings ticks (2 * i) (2 * i + 1) (omega arith) still was c.load-seen.ensures in
    record {
      brings = try_brings ticks IsAsBefore (2 * i + 1) (2 * (i + 1)) (omega arith) (g.met.M.Moves.stays_alone c.load-seen.new.self)
          (upper_tree m.key c.args.tree c.requires.tree) loads
          (known_load still was.sure c.load-seen.ensures) c.collect.ensures
          (still_as_before m.view w.view x.view (M.tick w.view.moves) (M.tick w.view.lost) loads.view c.if-collect.ensures.view);
    }
