use Rattle.std.proofs.Common.{ℕ, ◌+◌, ◌*◌, ◌<◌, refl, subst, arith, rules}
use Rattle.std.proofs.lemmas.Nat.{pow_pos}
use Rattle.frame_model.specs.declared.key.Key.{Key}
use Rattle.frame_model.specs.Steps.Amounts.{IsRun}
use Rattle.low_frames.proofs.TakeLemmas.{keeps_both, apart_as}
use Rattle.low_frames.proofs.Counts.{at_most, both_counts}
use Rattle.low_frames.proofs.Sure.{sure_both}
use Rattle.low_frames.proofs.ViewLemmas.{run_in_child, claimed_in}
use Rattle.low_frames.proofs.AloneLemmas.{HasNoRunsBelow, claimed_from, no_runs_more, no_runs_in_child}
use Rattle.low_frames.proofs.small.claim_in.Goals as goal

pub returns-in-Some : goal.returns-in-Some
returns-in-Some g c =
    let M = g.M.Moves in
    let ticks = g.met.M.Moves.ticks in
    let m = M.at c.args.m.now in
    let was = c.loop-i.invariant in
    let got = c.in-Some.ensures in
    let word : ℕ = 8 * c.args.child + c.loop-i.i in
    record {
      keeps = keeps_both was.keeps got.keeps;
      counts = at_most ticks (both_counts ticks was.counts got.counts) (omega (arith, c.loop-i-test.true));
      sure = sure_both was.sure got.sure;
      some = (
        run_in_child m.key c.args.child c.loop-i.i c.in-Some.bit c.args.order (omega (arith, c.loop-i-test.true))
            (subst (λ (k : Key). IsRun k word c.in-Some.bit c.args.order) was.keeps.same_key got.some.0),
        claimed_in c.args.child c.loop-i.i c.in-Some.bit c.args.order m.view (M.at c.loop-i.m).view (M.at c.try_claim.new.m).view
            (omega (arith, c.loop-i-test.true)) was.view got.some.1,
      );
      apart = apart_as was.keeps.same_key got.apart;
      none = search rules;
      alone_some = λ alone.
          let low : c.in-Some.bit < 64 = omega (arith, got.some.0.fits, pow_pos c.args.order) in
          claimed_from m.key (M.at c.loop-i.m).key (8 * c.args.child + c.loop-i.i) c.in-Some.bit c.args.order
          (HasNoRunsBelow m.key (8 * c.args.child) c.loop-i.i c.args.order) m.words (M.at c.loop-i.m).words
          (M.at c.try_claim.new.m).words was.keeps.same_key low (was.none alone) (got.alone_some (was.keeps.stays_alone alone));
      alone_none = search rules;
    }

pub loop-i-preserved : goal.loop-i-preserved
loop-i-preserved g c =
    let M = g.M.Moves in
    let ticks = g.met.M.Moves.ticks in
    let m = M.at c.args.m.now in
    let was = c.loop-i.invariant in
    let now = c.in_default.ensures in
    record {
      keeps = keeps_both was.keeps now.keeps;
      view = search rules;
      counts = at_most ticks (both_counts ticks was.counts now.counts) (omega arith);
      sure = sure_both was.sure now.sure;
      none = λ alone.
          no_runs_more m.key (M.at c.loop-i.m).key (8 * c.args.child) c.loop-i.i c.args.order (8 * c.args.child + c.loop-i.i)
          m.words (M.at c.loop-i.m).words (M.at c.try_claim.new.m).words was.keeps.same_key refl (was.none alone)
          (now.alone_none (was.keeps.stays_alone alone));
    }

pub returns : goal.returns
returns g c =
    let M = g.M.Moves in
    let was = c.loop-i.invariant in
    record {
      keeps = was.keeps;
      counts = at_most g.met.M.Moves.ticks was.counts (omega (arith, c.loop-i.auto.i-end));
      sure = was.sure;
      some = search rules;
      apart = search rules;
      none = was.view;
      alone_some = search rules;
      alone_none = λ alone.
          no_runs_in_child (M.at c.args.m.now).key c.args.child c.loop-i.i c.args.order (M.at c.args.m.now).words
          (M.at c.loop-i.m).words (omega (arith, c.loop-i-test.false)) (was.none alone);
    }
