use Rattle.std.proofs.Common.{◌≡◌, ◌+◌, ◌*◌, Some, ap, ◌∙◌, arith}
use Rattle.frame_words.specs.Words.{rest_in}
use Rattle.low_frames.specs.Bounds.{attempt}
use Rattle.low_frames.specs.Takes.{IsAsBefore}
use Rattle.low_frames.proofs.TakeLemmas.{still_as_before}
use Rattle.core_frames.proofs.Carried.{idle_still, can_pay_own, paid_own}
use Rattle.core_frames.proofs.KeptFrames.{upper_local}
use Rattle.core_frames.proofs.SureSteps.{read_here, known_load}
use Rattle.core_frames.proofs.SearchSteps.{load_brings, try_brings, made_one, made_both}
use Rattle.core_frames.proofs.search.attempts.try_pay_own.Goals as goal

pub load-seen-requires : goal.load-seen-requires
load-seen-requires g c =
    let M = g.M.Moves in
    record {
      inside = omega (arith, c.requires.core, ap (λ k. k.cores) c.loop-i.invariant.brings.keeps.same_key);
      share = (idle_still (M.at c.args.m.now).view (M.at c.loop-i.m).view c.requires.idle c.loop-i.invariant.brings.view).share;
    }

pub local_pay-requires : goal.local_pay-requires
local_pay-requires g c =
    let M = g.M.Moves in
    let v = (M.at c.args.m.now).view in
    let u = (M.at c.loop-i.m).view in
    let w = (M.at c.load-seen.new.self).view in
    let before : IsAsBefore v w = still_as_before v u w (M.tick u.moves) u.lost c.loop-i.invariant.brings.view c.load-seen.ensures.view in
    let is : rest_in c.load-seen.result ≡ Some (c.args.tree, c.in-Some.resting) = cc in
    record {
      share = (idle_still v w c.requires.idle before).share;
      seen = read_here c.load-seen.ensures;
      may = can_pay_own (M.at c.load-seen.new.self).key (M.at c.args.m.now).key v w c.args.core c.load-seen.result c.args.n c.args.tree
          c.in-Some.resting (c.load-seen.ensures.keeps.same_key ∙ c.loop-i.invariant.brings.keeps.same_key) c.requires.core c.requires.idle
          before is (omega arith);
    }

pub returns-then-local_pay-clause-brings : goal.returns-then-local_pay-clause-brings
returns-then-local_pay-clause-brings g c =
    let M = g.M.Moves in
    let ticks = g.met.M.Moves.ticks in
    let m = M.at c.args.m.now in
    let x = M.at c.local_pay.new.self in
    let i = c.loop-i._i in
    let is : rest_in c.load-seen.result ≡ Some (c.args.tree, c.in-Some.resting) = cc in
    let still = g.met.M.Moves.stays_alone c.loop-i.m in
    let was = c.loop-i.invariant.brings in
    let loads = load_brings ticks (2 * i) (2 * i + 1) (omega arith) still was c.load-seen.ensures in
    try_brings ticks _ (2 * i + 1) attempt (omega (arith, c.loop-i-test.true)) (g.met.M.Moves.stays_alone c.load-seen.new.self)
    (upper_local m.key c.args.core c.requires.core) loads
    (known_load still was.sure c.load-seen.ensures) c.local_pay.ensures
    (paid_own M.tick m.view (M.at c.load-seen.new.self).view x.view loads.view c.args.core c.load-seen.result c.args.tree
    c.in-Some.resting c.args.n c.requires.idle.paid is c.if-local_pay.ensures.view)

pub loop-i-preserved : goal.loop-i-preserved
loop-i-preserved g c =
    let M = g.M.Moves in
    let ticks = g.met.M.Moves.ticks in
    let m = M.at c.args.m.now in
    let u = M.at c.loop-i.m in
    let w = M.at c.load-seen.new.self in
    let x = M.at c.local_pay.new.self in
    let i = c.loop-i._i in
    let still = g.met.M.Moves.stays_alone c.loop-i.m in
    let was = c.loop-i.invariant.brings in
    let loads = load_brings ticks (2 * i) (2 * i + 1) (omega arith) still was c.load-seen.ensures in
    record {
      brings = try_brings ticks IsAsBefore (2 * i + 1) (2 * (i + 1)) (omega arith) (g.met.M.Moves.stays_alone c.load-seen.new.self)
          (upper_local m.key c.args.core c.requires.core) loads
          (known_load still was.sure c.load-seen.ensures) c.local_pay.ensures
          (still_as_before m.view w.view x.view (M.tick w.view.moves) (M.tick w.view.lost) loads.view c.if-local_pay.ensures.view);
      made = made_both ticks m w x (2 * i + 1) 1 (2 * (i + 1)) (2 * i + 1) attempt 1 attempt
          (omega arith) (omega arith) (omega (arith, c.loop-i-test.true)) loads.counts
          (made_both ticks m u w (2 * i) 1 (2 * i + 1) (2 * i) attempt 1 attempt (omega arith)
          (omega arith) (omega (arith, c.loop-i-test.true)) was.counts c.loop-i.invariant.made
          (made_one ticks u w (ap (λ v. v.moves) c.load-seen.ensures.view)))
          (made_one ticks w x (ap (λ v. v.moves) c.if-local_pay.ensures.view));
    }
