use Rattle.std.proofs.Common.{◌≡◌, None, Some, sym, subst, ◌∙◌, arith, rules}
use Rattle.frame_model.specs.declared.key.Key.{Key}
use Rattle.frame_words.specs.Words.{rest_in}
use Rattle.frame_model.specs.Words.{local_place, IsRest}
use Rattle.low_frames.specs.Takes.{IsAsBefore}
use Rattle.low_frames.proofs.TakeLemmas.{still_as_before, keeps_both}
use Rattle.low_frames.proofs.Counts.{at_most, both_counts, load_counts, try_counts}
use Rattle.core_frames.proofs.Carried.{idle_still, can_pay_own, paid_own}
use Rattle.low_frames.proofs.AloneLemmas.{IsSeen, seen_by, never_lost}
use Rattle.core_frames.specs.Fills.{HasNoneToPay}
use Rattle.core_frames.proofs.AloneSearch.{none_lost}
use Rattle.core_frames.proofs.FillLemmas.{nothing_to_pay, paid_first}
use Rattle.core_frames.proofs.search.fills.pay_some.Goals as goal

pub local_pay-requires : goal.local_pay-requires
local_pay-requires g c =
    let M = g.M.Moves in
    let v = (M.at c.args.m.now).view in
    let u = (M.at c.loop-i.m).view in
    let w = (M.at c.load-seen.new.self).view in
    let was = c.loop-i.invariant in
    let load = c.load-seen.ensures in
    let before : IsAsBefore v w = still_as_before v u w (M.tick u.moves) u.lost was.view load.view in
    let is : rest_in c.load-seen.result ≡ Some (c.in-Some.tree, c.in-Some.resting) = cc in
    record {
      share = (idle_still v w c.requires.idle before).share;
      seen = search rules;
      may = can_pay_own (M.at c.load-seen.new.self).key (M.at c.args.m.now).key v w c.args.core c.load-seen.result c.min-paid.result
          c.in-Some.tree c.in-Some.resting (load.keeps.same_key ∙ was.keeps.same_key) c.requires.core c.requires.idle before is
          (omega (arith, c.min-paid.ensures));
    }

pub returns-then-local_pay : goal.returns-then-local_pay
returns-then-local_pay g c =
    let M = g.M.Moves in
    let still = g.met.M.Moves.stays_alone in
    let ticks = g.met.M.Moves.ticks in
    let m = M.at c.args.m.now in
    let u = M.at c.loop-i.m in
    let w = M.at c.load-seen.new.self in
    let x = M.at c.local_pay.new.self in
    let was = c.loop-i.invariant in
    let load = c.load-seen.ensures in
    let tried = c.local_pay.ensures in
    let before : IsAsBefore m.view w.view = still_as_before m.view u.view w.view (M.tick u.view.moves) u.view.lost was.view load.view in
    let is : rest_in c.load-seen.result ≡ Some (c.in-Some.tree, c.in-Some.resting) = cc in
    let rest : IsRest m.key (Some (c.in-Some.tree, c.in-Some.resting)) =
    subst (IsRest m.key) is (subst (λ k. IsRest k (rest_in c.load-seen.result)) was.keeps.same_key load.layout) in
    record {
      keeps = keeps_both was.keeps (keeps_both load.keeps tried.keeps);
      counts = at_most ticks (both_counts ticks was.counts (both_counts ticks (load_counts ticks load) (try_counts ticks tried)))
          (omega (arith, c.loop-i-test.true));
      some = record {
        tree_inside = rest.0;
        few = omega (arith, c.min-paid.ensures);
        view = paid_own M.tick m.view w.view x.view before c.args.core c.load-seen.result c.in-Some.tree c.in-Some.resting
            c.min-paid.result c.requires.idle.paid is c.if-local_pay.ensures.view;
      };
      none = tt;
      alone_some = λ alone.
          paid_first w.key u.key m.key c.args.core c.load-seen.result c.args.n c.in-Some.tree c.in-Some.resting c.min-paid.result
          c.local_pay.result m.words w.words x.words load.keeps.same_key was.keeps.same_key c.requires.core is
          (λ h. omega (arith, h, c.min-paid.ensures))
          (seen_by _ (still c.loop-i.m) was.keeps load was.first alone)
          (tried.words (still c.load-seen.new.self (load.keeps.stays_alone (was.keeps.stays_alone alone))));
      alone_none = λ alone. tt;
    }

pub returns-in_default : goal.returns-in_default
returns-in_default g c =
    let M = g.M.Moves in
    let ticks = g.met.M.Moves.ticks in
    let m = M.at c.args.m.now in
    let u = M.at c.loop-i.m in
    let w = M.at c.load-seen.new.self in
    let was = c.loop-i.invariant in
    let load = c.load-seen.ensures in
    let is : rest_in c.load-seen.result ≡ None = cc in
    record {
      keeps = keeps_both was.keeps load.keeps;
      counts = at_most ticks (both_counts ticks was.counts (load_counts ticks load)) (omega (arith, c.loop-i-test.true));
      some = tt;
      none = still_as_before m.view u.view w.view (M.tick u.view.moves) u.view.lost was.view load.view;
      alone_some = λ alone. tt;
      alone_none = λ alone.
          nothing_to_pay u.key m.key c.args.core c.load-seen.result c.args.n None m.words w.words was.keeps.same_key is tt
          (seen_by _ (g.met.M.Moves.stays_alone c.loop-i.m) was.keeps load was.first alone);
    }

pub returns-then-paid-eq0 : goal.returns-then-paid-eq0
returns-then-paid-eq0 g c =
    let M = g.M.Moves in
    let ticks = g.met.M.Moves.ticks in
    let m = M.at c.args.m.now in
    let u = M.at c.loop-i.m in
    let w = M.at c.load-seen.new.self in
    let was = c.loop-i.invariant in
    let load = c.load-seen.ensures in
    let is : rest_in c.load-seen.result ≡ Some (c.in-Some.tree, c.in-Some.resting) = cc in
    record {
      keeps = keeps_both was.keeps load.keeps;
      counts = at_most ticks (both_counts ticks was.counts (load_counts ticks load)) (omega (arith, c.loop-i-test.true));
      some = tt;
      none = still_as_before m.view u.view w.view (M.tick u.view.moves) u.view.lost was.view load.view;
      alone_some = λ alone. tt;
      alone_none = λ alone.
          nothing_to_pay u.key m.key c.args.core c.load-seen.result c.args.n (Some (c.in-Some.tree, c.in-Some.resting)) m.words w.words
          was.keeps.same_key is (λ h. omega (arith, h, c.min-paid.ensures, c.if-paid-eq0.true))
          (seen_by _ (g.met.M.Moves.stays_alone c.loop-i.m) was.keeps load was.first alone);
    }

pub loop-i-preserved : goal.loop-i-preserved
loop-i-preserved g c =
    let M = g.M.Moves in
    let ticks = g.met.M.Moves.ticks in
    let still = g.met.M.Moves.stays_alone in
    let was = c.loop-i.invariant in
    let load = c.load-seen.ensures in
    let tried = c.local_pay.ensures in
    record {
      keeps = keeps_both was.keeps (keeps_both load.keeps tried.keeps);
      view = search rules;
      counts = at_most ticks (both_counts ticks was.counts (both_counts ticks (load_counts ticks load) (try_counts ticks tried)))
          (omega arith);
      first = λ alone.
          let seen = seen_by _ (still c.loop-i.m) was.keeps load was.first alone in
          never_lost _ _ c.if-local_pay.false (still c.load-seen.new.self (load.keeps.stays_alone (was.keeps.stays_alone alone))) tried
          (subst (λ (k : Key). IsSeen (local_place k c.args.core) c.load-seen.result (M.at c.args.m.now).words
          (M.at c.load-seen.new.self).words) (sym load.keeps.same_key) seen);
    }

pub returns : goal.returns
returns g c =
    let M = g.M.Moves in
    let was = c.loop-i.invariant in
    record {
      keeps = was.keeps;
      counts = at_most g.met.M.Moves.ticks was.counts (omega (arith, c.loop-i.auto._i-end));
      some = tt;
      none = was.view;
      alone_some = λ alone. tt;
      alone_none = λ alone.
          none_lost c.loop-i._i (HasNoneToPay (M.at c.args.m.now).key c.args.core c.args.n) (M.at c.args.m.now).words
          (M.at c.loop-i.m).words (omega (arith, c.loop-i-test.false)) (was.first alone);
    }
