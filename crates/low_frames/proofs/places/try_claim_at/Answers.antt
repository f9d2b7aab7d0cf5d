use Rattle.std.proofs.Common.{◌∙◌, ap, sym, subst, arith, rules}
use Rattle.std.specs.Int.Bits.{bit_and}
use Rattle.frame_words.specs.Runs.{IsClearRun}
use Rattle.frame_words.proofs.RunLemmas.{run_apart}
use Rattle.frame_model.specs.declared.key.Key.{Key}
use Rattle.frame_model.specs.Words.{bits_place}
use Rattle.low_frames.specs.Takes.{IsAsBefore}
use Rattle.low_frames.proofs.TakeLemmas.{still_as_before, can_claim, keeps_both, apart_as}
use Rattle.low_frames.proofs.Counts.{at_most, both_counts, load_counts, try_counts}
use Rattle.low_frames.proofs.Sure.{sure_where, sure_both, sure_load, sure_made}
use Rattle.low_frames.proofs.AloneLemmas.{IsSeen, seen_by, never_lost, claimed_first}
use Rattle.low_frames.proofs.PlaceLemmas.{clear_where_apart, not_clear_seen}
use Rattle.low_frames.proofs.places.try_claim_at.Goals as goal

pub claim-requires : goal.claim-requires
claim-requires g c =
    let M = g.M.Moves in
    let v = (M.at c.args.m.now).view in
    let u = (M.at c.loop-i.m).view in
    let w = (M.at c.load-seen.new.self).view in
    let was = c.loop-i.invariant in
    let load = c.load-seen.ensures in
    let is = c.requires.is_run in
    let before : IsAsBefore v w = still_as_before v u w (M.tick u.moves) u.lost was.view load.view in
    let clear : IsClearRun c.load-seen.result c.args.order c.args.bit =
    clear_where_apart c.load-seen.result c.args.order c.args.bit c.mask-run.result is.aligned is.fits c.mask-run.ensures.bits
    c.if-seen-run-ne0.false in
    let may = can_claim (M.at c.load-seen.new.self).key (M.at c.args.m.now).key v w c.args.word c.load-seen.result c.args.bit
    c.args.order (load.keeps.same_key ∙ was.keeps.same_key) before is.inside is.small c.requires.charged c.requires.paid
    c.load-seen.type_inv clear in
    (c.args.bit, (c.args.order, (c.mask-run.ensures.value, record { share = search rules; seen = search rules; may = may })))

pub returns-then-seen-run-ne0 : goal.returns-then-seen-run-ne0
returns-then-seen-run-ne0 g c =
    let M = g.M.Moves in
    let ticks = g.met.M.Moves.ticks in
    let was = c.loop-i.invariant in
    let load = c.load-seen.ensures in
    let still = g.met.M.Moves.stays_alone c.loop-i.m in
    record {
      keeps = keeps_both was.keeps load.keeps;
      counts = at_most ticks (both_counts ticks was.counts (load_counts ticks load)) (omega (arith, c.loop-i-test.true));
      sure = sure_both (sure_where was.first (λ ws d. was.sure d.0)) (sure_load still load);
      view = search rules;
      apart = λ e. absurd (cc);
      alone = λ alone.
          not_clear_seen (M.at c.loop-i.m).key (M.at c.args.m.now).key c.args.word c.load-seen.result c.args.bit c.args.order
          (M.at c.args.m.now).words (M.at c.load-seen.new.self).words was.keeps.same_key
          (λ run. c.if-seen-run-ne0.true (ap (bit_and c.load-seen.result) c.mask-run.ensures.value
          ∙ run_apart c.load-seen.result c.args.order c.args.bit c.load-seen.type_inv run))
          (seen_by _ still was.keeps load was.first alone);
    }

pub returns-then-claim : goal.returns-then-claim
returns-then-claim g c =
    let M = g.M.Moves in
    let ticks = g.met.M.Moves.ticks in
    let was = c.loop-i.invariant in
    let load = c.load-seen.ensures in
    let tried = c.claim.ensures c.args.bit c.args.order c.mask-run.ensures.value in
    let still = g.met.M.Moves.stays_alone in
    let is = c.requires.is_run in
    let clear : IsClearRun c.load-seen.result c.args.order c.args.bit =
    clear_where_apart c.load-seen.result c.args.order c.args.bit c.mask-run.result is.aligned is.fits c.mask-run.ensures.bits
    c.if-seen-run-ne0.false in
    record {
      keeps = keeps_both was.keeps (keeps_both load.keeps tried.keeps);
      counts = at_most ticks (both_counts ticks was.counts (both_counts ticks (load_counts ticks load) (try_counts ticks tried)))
          (omega (arith, c.loop-i-test.true));
      sure = sure_both (sure_where was.first (λ ws d. was.sure d.0))
          (sure_both (sure_load (still c.loop-i.m) load) (sure_made c.if-claim.true (still c.load-seen.new.self) tried));
      view = search rules;
      apart = λ e. apart_as (load.keeps.same_key ∙ was.keeps.same_key) tried.apart;
      alone = λ alone.
          let now = load.keeps.stays_alone (was.keeps.stays_alone alone) in
          claimed_first (M.at c.load-seen.new.self).key (M.at c.loop-i.m).key (M.at c.args.m.now).key c.args.word c.load-seen.result
          c.args.bit c.args.order c.mask-run.result c.claim.result (M.at c.args.m.now).words (M.at c.load-seen.new.self).words
          (M.at c.claim.new.self).words load.keeps.same_key was.keeps.same_key c.mask-run.ensures.value clear
          (seen_by _ (still c.loop-i.m) was.keeps load was.first alone)
          (λ from order e. (c.claim.ensures from order e).words (still c.load-seen.new.self now));
    }

pub loop-i-preserved : goal.loop-i-preserved
loop-i-preserved g c =
    let M = g.M.Moves in
    let ticks = g.met.M.Moves.ticks in
    let was = c.loop-i.invariant in
    let load = c.load-seen.ensures in
    let tried = c.claim.ensures c.args.bit c.args.order c.mask-run.ensures.value in
    let still = g.met.M.Moves.stays_alone in
    record {
      keeps = keeps_both was.keeps (keeps_both load.keeps tried.keeps);
      view = search rules;
      counts = at_most ticks (both_counts ticks was.counts (both_counts ticks (load_counts ticks load) (try_counts ticks tried)))
          (omega arith);
      first = λ alone.
          let seen = seen_by _ (still c.loop-i.m) was.keeps load was.first alone in
          never_lost _ _ c.if-claim.false (still c.load-seen.new.self (load.keeps.stays_alone (was.keeps.stays_alone alone))) tried
          (subst (λ (k : Key). IsSeen (bits_place k c.args.word) c.load-seen.result (M.at c.args.m.now).words
          (M.at c.load-seen.new.self).words) (sym load.keeps.same_key) seen);
      sure = λ e. absurd (omega (arith, e));
    }

pub returns : goal.returns
returns g c =
    let ticks = g.met.M.Moves.ticks in
    let was = c.loop-i.invariant in
    record {
      keeps = was.keeps;
      counts = at_most ticks was.counts (omega (arith, c.loop-i.auto._i-end));
      sure = sure_where was.first (λ ws d. was.sure d.0);
      view = was.view;
      apart = λ e. absurd (cc);
      alone = search rules;
    }
