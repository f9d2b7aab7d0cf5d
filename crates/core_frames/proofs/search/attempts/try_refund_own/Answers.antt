use Rattle.std.proofs.Common.{◌≡◌, ◌+◌, ◌*◌, Some, ap, ◌∙◌, arith}
use Rattle.frame_words.specs.Words.{rest_in}
use Rattle.frame_model.specs.declared.view.View.{View}
use Rattle.low_frames.specs.Bounds.{attempt}
use Rattle.low_frames.specs.Takes.{IsAsBefore}
use Rattle.low_frames.proofs.TakeLemmas.{still_as_before}
use Rattle.core_frames.proofs.Carried.{can_refund_own, refunded_own}
use Rattle.core_frames.proofs.KeptFrames.{upper_local}
use Rattle.core_frames.proofs.SureSteps.{read_here, known_load}
use Rattle.core_frames.proofs.SearchSteps.{load_brings, try_brings, brings_within}
use Rattle.core_frames.proofs.search.attempts.try_refund_own.Goals as goal

pub load-seen-requires : goal.load-seen-requires
load-seen-requires g c =
    let M = g.M.Moves in
    record {
      inside = omega (arith, c.requires.core, ap (λ k. k.cores) c.loop-i.invariant.brings.keeps.same_key);
      share = omega (arith, c.requires.share, ap (λ (x : View). x.share) c.loop-i.invariant.brings.view);
    }

pub local_refund-requires : goal.local_refund-requires
local_refund-requires g c =
    let M = g.M.Moves in
    let v = (M.at c.args.m.now).view in
    let u = (M.at c.loop-i.m).view in
    let w = (M.at c.load-seen.new.self).view in
    let before : IsAsBefore v w = still_as_before v u w (M.tick u.moves) u.lost c.loop-i.invariant.brings.view c.load-seen.ensures.view in
    let is : rest_in c.load-seen.result ≡ Some (c.args.tree, c.in-Some._resting) = cc in
    record {
      share = omega (arith, c.requires.share, ap (λ (x : View). x.share) before);
      seen = read_here c.load-seen.ensures;
      may = can_refund_own (M.at c.load-seen.new.self).key (M.at c.args.m.now).key v w c.args.core c.load-seen.result c.args.n c.args.tree
          c.in-Some._resting (c.load-seen.ensures.keeps.same_key ∙ c.loop-i.invariant.brings.keeps.same_key) c.requires.core c.requires.paid
          before is;
    }

pub returns-then-local_refund : goal.returns-then-local_refund
returns-then-local_refund g c =
    let M = g.M.Moves in
    let ticks = g.met.M.Moves.ticks in
    let m = M.at c.args.m.now in
    let x = M.at c.local_refund.new.self in
    let i = c.loop-i._i in
    let is : rest_in c.load-seen.result ≡ Some (c.args.tree, c.in-Some._resting) = cc in
    let still = g.met.M.Moves.stays_alone c.loop-i.m in
    let was = c.loop-i.invariant.brings in
    let loads = load_brings ticks (2 * i) (2 * i + 1) (omega arith) still was c.load-seen.ensures in
    try_brings ticks _ (2 * i + 1) attempt (omega (arith, c.loop-i-test.true)) (g.met.M.Moves.stays_alone c.load-seen.new.self)
    (upper_local m.key c.args.core c.requires.core) loads
    (known_load still was.sure c.load-seen.ensures) c.local_refund.ensures
    (refunded_own M.tick m.view (M.at c.load-seen.new.self).view x.view loads.view c.args.core c.load-seen.result c.args.tree
    c.in-Some._resting c.args.n c.requires.paid is c.if-local_refund.ensures.view)

pub returns-in_default : goal.returns-in_default
returns-in_default g c =
    load_brings g.met.M.Moves.ticks (2 * c.loop-i._i) attempt (omega (arith, c.loop-i-test.true)) (g.met.M.Moves.stays_alone c.loop-i.m)
    c.loop-i.invariant.brings c.load-seen.ensures

pub returns-then-own-tree : goal.returns-then-own-tree
returns-then-own-tree g c =
    load_brings g.met.M.Moves.ticks (2 * c.loop-i._i) attempt (omega (arith, c.loop-i-test.true)) (g.met.M.Moves.stays_alone c.loop-i.m)
    c.loop-i.invariant.brings c.load-seen.ensures

pub returns : goal.returns
returns g c =
    brings_within g.met.M.Moves.ticks (2 * c.loop-i._i) attempt (omega (arith, c.loop-i.auto._i-end)) c.loop-i.invariant.brings

pub loop-i-preserved : goal.loop-i-preserved
loop-i-preserved g c =
    let M = g.M.Moves in
    let ticks = g.met.M.Moves.ticks in
    let m = M.at c.args.m.now in
    let w = M.at c.load-seen.new.self in
    let x = M.at c.local_refund.new.self in
    let i = c.loop-i._i in
    let still = g.met.M.Moves.stays_alone c.loop-i.m in
    let was = c.loop-i.invariant.brings in
    let loads = load_brings ticks (2 * i) (2 * i + 1) (omega arith) still was c.load-seen.ensures in
    record {
      brings = try_brings ticks IsAsBefore (2 * i + 1) (2 * (i + 1)) (omega arith) (g.met.M.Moves.stays_alone c.load-seen.new.self)
          (upper_local m.key c.args.core c.requires.core) loads
          (known_load still was.sure c.load-seen.ensures) c.local_refund.ensures
          (still_as_before m.view w.view x.view (M.tick w.view.moves) (M.tick w.view.lost) loads.view c.if-local_refund.ensures.view);
    }
