use Rattle.std.proofs.Common.{◌+◌, ◌*◌, ◌∙◌, arith}
use Rattle.frame_model.specs.Words.{tree_place}
use Rattle.low_frames.specs.Bounds.{attempt}
use Rattle.low_frames.specs.Takes.{IsAsBefore}
use Rattle.low_frames.proofs.AloneLemmas.{seen_first}
use Rattle.low_frames.proofs.TakeLemmas.{still_as_before}
use Rattle.core_frames.proofs.Carried.{idle_still, can_pay_tree, paid_tree}
use Rattle.core_frames.proofs.KeptFrames.{upper_tree}
use Rattle.core_frames.proofs.PlaceLemmas.{fewer_first}
use Rattle.core_frames.proofs.SureSteps.{read_here, known_load}
use Rattle.core_frames.proofs.SearchSteps.{load_brings, try_brings}
use Rattle.core_frames.proofs.search.attempts.try_pay.Goals as goal

pub tree_pay-requires : goal.tree_pay-requires
tree_pay-requires g c =
    let M = g.M.Moves in
    let v = (M.at c.args.m.now).view in
    let u = (M.at c.loop-i.m).view in
    let w = (M.at c.load-seen.new.self).view in
    let before : IsAsBefore v w = still_as_before v u w (M.tick u.moves) u.lost c.loop-i.invariant.brings.view c.load-seen.ensures.view in
    record {
      share = (idle_still v w c.requires.idle before).share;
      seen = read_here c.load-seen.ensures;
      may = can_pay_tree (M.at c.load-seen.new.self).key (M.at c.args.m.now).key v w c.args.tree c.load-seen.result c.args.n
          (c.load-seen.ensures.keeps.same_key ∙ c.loop-i.invariant.brings.keeps.same_key) c.requires.tree c.requires.idle before
          (omega (arith, c.if-free-n.false, c.tree_free-free.ensures.value));
    }

pub returns-then-free-n-clause-few : goal.returns-then-free-n-clause-few
returns-then-free-n-clause-few g c none alone =
    let M = g.M.Moves in
    let m = M.at c.args.m.now in
    let u = M.at c.loop-i.m in
    let w = M.at c.load-seen.new.self in
    let was = c.loop-i.invariant in
    let seen = seen_first c.loop-i._i (tree_place u.key c.args.tree) c.load-seen.result m.words u.words w.words (was.first alone)
    (c.load-seen.ensures.words (g.met.M.Moves.stays_alone c.loop-i.m (was.brings.keeps.stays_alone alone))) in
    fewer_first u.key m.key c.args.tree c.load-seen.result c.tree_free-free.result c.args.n m.words w.words was.brings.keeps.same_key
    c.tree_free-free.ensures.value c.if-free-n.true seen

pub returns-then-tree_pay-clause-brings : goal.returns-then-tree_pay-clause-brings
returns-then-tree_pay-clause-brings g c =
    let M = g.M.Moves in
    let ticks = g.met.M.Moves.ticks in
    let m = M.at c.args.m.now in
    let x = M.at c.tree_pay.new.self in
    let i = c.loop-i._i in
    let still = g.met.M.Moves.stays_alone c.loop-i.m in
    let was = c.loop-i.invariant.brings in
    let loads = load_brings ticks (2 * i) (2 * i + 1) (omega arith) still was c.load-seen.ensures in
    try_brings ticks _ (2 * i + 1) attempt (omega (arith, c.loop-i-test.true)) (g.met.M.Moves.stays_alone c.load-seen.new.self)
    (upper_tree m.key c.args.tree c.requires.tree) loads
    (known_load still was.sure c.load-seen.ensures) c.tree_pay.ensures
    (paid_tree M.tick m.view (M.at c.load-seen.new.self).view x.view loads.view c.args.tree c.load-seen.result c.args.n
    c.requires.idle.paid c.if-tree_pay.ensures.view)
