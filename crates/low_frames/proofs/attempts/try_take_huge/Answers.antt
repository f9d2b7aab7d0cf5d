use Rattle.std.proofs.Common.{◌≡◌, ◌∙◌, arith, rules}
use Rattle.low_frames.specs.Takes.{IsAsBefore}
use Rattle.low_frames.proofs.TakeLemmas.{still_as_before, can_take_huge, keeps_both, apart_as}
use Rattle.low_frames.proofs.Counts.{at_most, both_counts, load_counts, try_counts}
use Rattle.low_frames.proofs.Sure.{sure_where, sure_both, sure_load, sure_made}
use Rattle.low_frames.proofs.AloneLemmas.{seen_by, never_lost, part_seen, huge_first}
use Rattle.low_frames.proofs.attempts.try_take_huge.Goals as goal

pub take_huge-requires : goal.take_huge-requires
take_huge-requires g c =
    let M = g.M.Moves in
    let v = (M.at c.args.m.now).view in
    let u = (M.at c.loop-i.m).view in
    let w = (M.at c.load-seen.new.self).view in
    let was = c.loop-i.invariant in
    let load = c.load-seen.ensures in
    let before : IsAsBefore v w = still_as_before v u w (M.tick u.moves) u.lost was.view load.view in
    record {
      share = search rules;
      seen = load.here;
      may = can_take_huge (M.at c.load-seen.new.self).key (M.at c.args.m.now).key v w c.args.child c.load-seen.result c.lane.result
          (load.keeps.same_key ∙ was.keeps.same_key) before c.requires.child c.requires.charged c.requires.own c.requires.paid
          c.lane.ensures.value (omega (arith, c.if-lane-ne-WHOLE.false));
    }

pub returns-then-lane-ne-WHOLE : goal.returns-then-lane-ne-WHOLE
returns-then-lane-ne-WHOLE g c =
    let M = g.M.Moves in
    let ticks = g.met.M.Moves.ticks in
    let was = c.loop-i.invariant in
    let load = c.load-seen.ensures in
    let still = g.met.M.Moves.stays_alone c.loop-i.m in
    record {
      keeps = keeps_both was.keeps load.keeps;
      counts = at_most ticks (both_counts ticks was.counts (load_counts ticks load)) (omega (arith, c.loop-i-test.true));
      sure = sure_both (sure_where was.first (λ ws d. was.sure d.0)) (sure_load still load);
      view = search rules;
      apart = λ e. absurd (cc);
      alone = λ alone.
          part_seen c.args.child c.load-seen.result c.lane.result (M.at c.args.m.now).words (M.at c.load-seen.new.self).words
          c.lane.ensures.value c.if-lane-ne-WHOLE.true (seen_by _ still was.keeps load was.first alone);
    }

pub returns-then-take_huge : goal.returns-then-take_huge
returns-then-take_huge g c =
    let M = g.M.Moves in
    let ticks = g.met.M.Moves.ticks in
    let was = c.loop-i.invariant in
    let load = c.load-seen.ensures in
    let tried = c.take_huge.ensures in
    let still = g.met.M.Moves.stays_alone in
    let key : (M.at c.load-seen.new.self).key ≡ (M.at c.args.m.now).key = load.keeps.same_key ∙ was.keeps.same_key in
    record {
      keeps = keeps_both was.keeps (keeps_both load.keeps tried.keeps);
      counts = at_most ticks (both_counts ticks was.counts (both_counts ticks (load_counts ticks load) (try_counts ticks tried)))
          (omega (arith, c.loop-i-test.true));
      sure = sure_both (sure_where was.first (λ ws d. was.sure d.0))
          (sure_both (sure_load (still c.loop-i.m) load) (sure_made c.if-take_huge.true (still c.load-seen.new.self) tried));
      view = search rules;
      apart = λ e. apart_as key tried.apart;
      alone = λ alone.
          let now = load.keeps.stays_alone (was.keeps.stays_alone alone) in
          huge_first (M.at c.load-seen.new.self).key (M.at c.args.m.now).key c.args.child c.load-seen.result c.lane.result
          c.take_huge.result (M.at c.args.m.now).words (M.at c.load-seen.new.self).words (M.at c.take_huge.new.self).words key
          c.lane.ensures.value c.if-lane-ne-WHOLE.false (seen_by _ (still c.loop-i.m) was.keeps load was.first alone)
          (tried.words (still c.load-seen.new.self now));
    }

pub loop-i-preserved : goal.loop-i-preserved
loop-i-preserved g c =
    let ticks = g.met.M.Moves.ticks in
    let was = c.loop-i.invariant in
    let load = c.load-seen.ensures in
    let tried = c.take_huge.ensures in
    let still = g.met.M.Moves.stays_alone in
    record {
      keeps = keeps_both was.keeps (keeps_both load.keeps tried.keeps);
      view = search rules;
      counts = at_most ticks (both_counts ticks was.counts (both_counts ticks (load_counts ticks load) (try_counts ticks tried)))
          (omega arith);
      first = λ alone.
          never_lost _ _ c.if-take_huge.false (still c.load-seen.new.self (load.keeps.stays_alone (was.keeps.stays_alone alone))) tried
          (seen_by _ (still c.loop-i.m) was.keeps load was.first alone);
      sure = λ e. absurd (omega (arith, e));
    }

pub returns : goal.returns
returns g c =
    let ticks = g.met.M.Moves.ticks in
    let was = c.loop-i.invariant in
    record {
      keeps = was.keeps;
      counts = at_most ticks was.counts (omega (arith, c.loop-i.auto._i-end));
      sure = sure_where was.first (λ ws d. was.sure d.0);
      view = was.view;
      apart = λ e. absurd (cc);
      alone = search rules;
    }
