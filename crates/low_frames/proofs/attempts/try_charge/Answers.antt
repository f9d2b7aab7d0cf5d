use Rattle.std.proofs.Common.{◌≡◌, ◌⊎◌, inl, inr, ◌<◌, ◌≤◌, ◌∙◌, arith, rules}
use Rattle.frame_words.specs.Words.{free_in, flag_in}
use Rattle.low_frames.specs.Takes.{IsAsBefore}
use Rattle.low_frames.proofs.TakeLemmas.{still_as_before, can_charge, keeps_both, apart_as}
use Rattle.low_frames.proofs.Counts.{at_most, both_counts, load_counts, try_counts}
use Rattle.low_frames.proofs.Sure.{sure_where, sure_both, sure_load, sure_made}
use Rattle.low_frames.proofs.AloneLemmas.{seen_by, never_lost, too_few_seen, charged_first}
use Rattle.low_frames.proofs.attempts.try_charge.Goals as goal
use Rattle.low_frames.proofs.attempts.try_charge.Goals.{then-entry_huge-via-then-entry_huge}
use Rattle.low_frames.proofs.attempts.try_charge.Goals.{then-entry_huge-via-else-entry_huge+then-entry_free-n}

pub charge-requires : goal.charge-requires
charge-requires g c =
    let M = g.M.Moves in
    let v = (M.at c.args.m.now).view in
    let u = (M.at c.loop-i.m).view in
    let w = (M.at c.load-seen.new.self).view in
    let was = c.loop-i.invariant in
    let load = c.load-seen.ensures in
    let before : IsAsBefore v w = still_as_before v u w (M.tick u.moves) u.lost was.view load.view in
    let flag : flag_in c.lane-entry.result ≡ 0 = c.entry_huge.ensures.value c.lane-entry.ensures.below ∙ cc in
    let enough : c.args.n ≤ free_in c.lane-entry.result = omega (arith, c.if-entry_free-n.false, c.entry_free.ensures.value) in
    record {
      share = search rules;
      seen = load.here;
      may = can_charge (M.at c.load-seen.new.self).key (M.at c.args.m.now).key v w c.args.child c.load-seen.result c.lane-entry.result
          c.args.n (load.keeps.same_key ∙ was.keeps.same_key) before c.requires.child c.requires.charged c.requires.own
          c.lane-entry.ensures.value flag enough;
    }

pub returns-then-entry_huge : goal.returns-then-entry_huge
returns-then-entry_huge g c =
    let M = g.M.Moves in
    let ticks = g.met.M.Moves.ticks in
    let was = c.loop-i.invariant in
    let load = c.load-seen.ensures in
    let still = g.met.M.Moves.stays_alone c.loop-i.m in
    let few : (flag_in c.lane-entry.result ≡ 1) ⊎ (free_in c.lane-entry.result < c.args.n) = elim c.then-entry_huge.branch [
      | then-entry_huge-via-then-entry_huge w ↦ inl (w.if-entry_huge.ensures.value c.lane-entry.ensures.below ∙ cc)
      | then-entry_huge-via-else-entry_huge+then-entry_free-n w ↦ inr (omega (arith, w.if-entry_free-n.true, w.entry_free.ensures.value))
    ] in
    record {
      keeps = keeps_both was.keeps load.keeps;
      counts = at_most ticks (both_counts ticks was.counts (load_counts ticks load)) (omega (arith, c.loop-i-test.true));
      sure = sure_both (sure_where was.first (λ ws d. was.sure d.0)) (sure_load still load);
      view = search rules;
      apart = λ e. absurd (cc);
      alone = λ alone.
          too_few_seen c.args.child c.args.n c.load-seen.result c.lane-entry.result (M.at c.args.m.now).words
          (M.at c.load-seen.new.self).words c.lane-entry.ensures.value few (seen_by _ still was.keeps load was.first alone);
    }

pub returns-then-charge : goal.returns-then-charge
returns-then-charge g c =
    let M = g.M.Moves in
    let ticks = g.met.M.Moves.ticks in
    let was = c.loop-i.invariant in
    let load = c.load-seen.ensures in
    let tried = c.charge.ensures in
    let still = g.met.M.Moves.stays_alone in
    let key : (M.at c.load-seen.new.self).key ≡ (M.at c.args.m.now).key = load.keeps.same_key ∙ was.keeps.same_key in
    let flag : flag_in c.lane-entry.result ≡ 0 = c.entry_huge.ensures.value c.lane-entry.ensures.below ∙ cc in
    let enough : c.args.n ≤ free_in c.lane-entry.result = omega (arith, c.if-entry_free-n.false, c.entry_free.ensures.value) in
    record {
      keeps = keeps_both was.keeps (keeps_both load.keeps tried.keeps);
      counts = at_most ticks (both_counts ticks was.counts (both_counts ticks (load_counts ticks load) (try_counts ticks tried)))
          (omega (arith, c.loop-i-test.true));
      sure = sure_both (sure_where was.first (λ ws d. was.sure d.0))
          (sure_both (sure_load (still c.loop-i.m) load) (sure_made c.if-charge.true (still c.load-seen.new.self) tried));
      view = search rules;
      apart = λ e. apart_as key tried.apart;
      alone = λ alone.
          let now = load.keeps.stays_alone (was.keeps.stays_alone alone) in
          charged_first (M.at c.load-seen.new.self).key (M.at c.args.m.now).key c.args.child c.args.n c.load-seen.result
          c.lane-entry.result c.charge.result (M.at c.args.m.now).words (M.at c.load-seen.new.self).words (M.at c.charge.new.self).words
          key c.lane-entry.ensures.value flag enough (seen_by _ (still c.loop-i.m) was.keeps load was.first alone)
          (tried.words (still c.load-seen.new.self now));
    }

pub loop-i-preserved : goal.loop-i-preserved
loop-i-preserved g c =
    let ticks = g.met.M.Moves.ticks in
    let was = c.loop-i.invariant in
    let load = c.load-seen.ensures in
    let tried = c.charge.ensures in
    let still = g.met.M.Moves.stays_alone in
    record {
      keeps = keeps_both was.keeps (keeps_both load.keeps tried.keeps);
      view = search rules;
      counts = at_most ticks (both_counts ticks was.counts (both_counts ticks (load_counts ticks load) (try_counts ticks tried)))
          (omega arith);
      first = λ alone.
          never_lost _ _ c.if-charge.false (still c.load-seen.new.self (load.keeps.stays_alone (was.keeps.stays_alone alone))) tried
          (seen_by _ (still c.loop-i.m) was.keeps load was.first alone);
      sure = λ e. absurd (omega (arith, e));
    }

pub returns : goal.returns
returns g c =
    let ticks = g.met.M.Moves.ticks in
    let was = c.loop-i.invariant in
    record {
      keeps = was.keeps;
      counts = at_most ticks was.counts (omega (arith, c.loop-i.auto._i-end));
      sure = sure_where was.first (λ ws d. was.sure d.0);
      view = was.view;
      apart = λ e. absurd (cc);
      alone = search rules;
    }
