use Rattle.std.proofs.Common.{◌≡◌, ℕ, ◌+◌, ◌-◌, ◌*◌, ◌%◌, ◌^◌, ◌≤◌, List, Some, subst, arith, rules}
use Rattle.frame_model.specs.declared.key.Key.{Key}
use Rattle.low_frames.specs.Takes.{LosesNone}
use Rattle.low_frames.specs.Groups.{HoldsWords, HoldsMoreWords, ReadsOutside, HasTakenWords}
use Rattle.low_frames.proofs.TakeLemmas.{still_as_before, keeps_both, apart_as}
use Rattle.low_frames.proofs.Counts.{at_most, both_counts}
use Rattle.low_frames.proofs.Sure.{loses_both, sure_where, sure_by_words}
use Rattle.low_frames.proofs.AloneLemmas.{at_known}
use Rattle.low_frames.proofs.FlightLemmas.{still_charges}
use Rattle.low_frames.proofs.WideLemmas.{turns_all, some_in_group, group_is, turns, groups_read, groups_still}
use Rattle.low_frames.proofs.WideAlone.{first_look, look_lost, look_again, some_try, group_tried, group_none, group_taken}
use Rattle.low_frames.proofs.wide.claim_group.Goals as goal

pub loop-i-init : goal.loop-i-init
loop-i-init g c =
    let M = g.M.Moves in
    let m = M.at c.args.m.now in
    let l = M.at c.load_words-words.new.m in
    let list = c.load_words-words.result in
    let loaded = c.load_words-words.ensures in
    record {
      keeps = loaded.keeps;
      view = loaded.view;
      seen = groups_read m.key l.read list c.args.order c.args.child c.args.count c.requires.wide c.requires.order c.requires.count
          loaded.read;
      size = loaded.size;
      counts = at_most g.met.M.Moves.ticks loaded.counts (omega arith);
      look = λ h. first_look m.key c.args.child list m.words l.words (loaded.alone h);
      sure = λ e. loaded.sure;
    }

pub claim_words-requires : goal.claim_words-requires
claim_words-requires g c = search rules

pub loop-i-preserved : goal.loop-i-preserved
loop-i-preserved g c =
    let M = g.M.Moves in
    let m = M.at c.args.m.now in
    let l = M.at c.loop-i.m in
    let n = M.at c.claim_words.new.m in
    let was = c.loop-i.invariant in
    let claimed = c.claim_words.ensures in
    let lost = c.in-Some-claim_words.ensures.lost in
    let first : ℕ = c.in-Some.first in
    let f : ℕ = 8 * c.args.child + first in
    let group = c.in-Some.ensures.found.group in
    let r = turns c.args.order c.args.count c.loop-i._i c.requires.wide c.requires.order c.requires.count c.loop-i-test.true in
    let size : 2 ^ (c.args.order - 6) ≡ c.args.count =
    group_is c.args.order c.args.count c.requires.wide c.requires.order c.requires.count in
    let inside : first + 2 ^ (c.args.order - 6) ≤ 8 = group.inside in
    let reads : ReadsOutside m.key f c.args.count l.read n.read =
    subst (λ (k : Key). ReadsOutside k f c.args.count l.read n.read) was.keeps.same_key claimed.read in
    record {
      keeps = keeps_both was.keeps claimed.keeps;
      view = still_as_before m.view l.view n.view n.view.moves n.view.lost was.view lost.view;
      seen = groups_still m.key l.read n.read c.loop-i.words c.args.order c.args.child c.args.count first c.in-Some-claim_words.lost
          c.in-Some-claim_words.found c.requires.wide c.requires.order c.requires.count was.size
          (subst (λ k. first % k ≡ 0) size group.aligned) (omega arith) lost.from lost.to lost.not_clear reads was.seen;
      size = search rules;
      counts = at_most g.met.M.Moves.ticks (both_counts g.met.M.Moves.ticks was.counts claimed.counts) (omega (arith, r.1));
      look = λ h.
          look_lost m.words l.words (c.in-Some-claim_words.lost, c.in-Some-claim_words.found)
          (HasTakenWords l.key l.words n.words f c.args.count × LosesNone l n) _
          (group_tried l.key m.key l.view l.is_alone c.args.child c.args.order c.args.count first c.loop-i._i c.loop-i.words m.words
          l.words _ was.keeps.same_key c.requires.wide c.requires.order c.requires.count c.requires.child
          (still_charges c.args.child (64 * c.args.count) m.view l.view was.view
          (omega (arith, some_in_group c.args.order c.args.count c.requires.count)) c.requires.charged)
          (g.met.M.Moves.fits c.loop-i.m) (was.look h) group (c.in-Some-claim_words.ensures.alone (was.keeps.stays_alone h)));
      sure = λ e. absurd (omega (arith, e));
    }

pub returns-in_default : goal.returns-in_default
returns-in_default g c =
    let M = g.M.Moves in
    let m = M.at c.args.m.now in
    let l = M.at c.loop-i.m in
    let was = c.loop-i.invariant in
    let r = turns c.args.order c.args.count c.loop-i._i c.requires.wide c.requires.order c.requires.count c.loop-i-test.true in
    record {
      keeps = was.keeps;
      counts = at_most g.met.M.Moves.ticks was.counts (omega (arith, r.0));
      sure = sure_where was.look (λ ws d. was.sure d.0);
      some = search rules;
      apart = search rules;
      none = was.view;
      alone_some = search rules;
      alone_none = λ h.
          group_none l.key m.key l.view l.is_alone c.args.child c.args.order c.loop-i._i c.loop-i.words m.words l.words
          was.keeps.same_key c.requires.wide c.requires.order (g.met.M.Moves.fits c.loop-i.m) (was.look h) c.in_default.ensures.none;
    }

pub returns-in_default-claim_words : goal.returns-in_default-claim_words
returns-in_default-claim_words g c =
    let M = g.M.Moves in
    let m = M.at c.args.m.now in
    let l = M.at c.loop-i.m in
    let n = M.at c.claim_words.new.m in
    let was = c.loop-i.invariant in
    let got = c.in_default-claim_words.ensures in
    let first : ℕ = c.in-Some.first in
    let f : ℕ = 8 * c.args.child + first in
    let group = c.in-Some.ensures.found.group in
    let r = turns c.args.order c.args.count c.loop-i._i c.requires.wide c.requires.order c.requires.count c.loop-i-test.true in
    let size : 2 ^ (c.args.order - 6) ≡ c.args.count =
    group_is c.args.order c.args.count c.requires.wide c.requires.order c.requires.count in
    let same = was.keeps.same_key in
    let tried = λ (h : m.is_alone).
    group_tried l.key m.key l.view l.is_alone c.args.child c.args.order c.args.count first c.loop-i._i c.loop-i.words m.words l.words _
    same c.requires.wide c.requires.order c.requires.count c.requires.child
    (still_charges c.args.child (64 * c.args.count) m.view l.view was.view
    (omega (arith, some_in_group c.args.order c.args.count c.requires.count)) c.requires.charged)
    (g.met.M.Moves.fits c.loop-i.m) (was.look h) group (got.alone (was.keeps.stays_alone h)) in
    record {
      keeps = keeps_both was.keeps got.keeps;
      counts = at_most g.met.M.Moves.ticks (both_counts g.met.M.Moves.ticks was.counts got.counts) (omega (arith, r.0));
      sure = sure_by_words (λ h. got.keeps.stays_alone (was.keeps.stays_alone h)) tried
          (λ ws s d.
          let known = at_known l.words (λ ws. (us : List ℕ) × ((n.words ≡ Some us) × HoldsMoreWords l.key ws us f c.args.count))
          ws d.0 d.1.1.0 in
          ((known.0, known.1.0), loses_both ((sure_where was.look (λ ws d. was.sure d.0)).loses_none s) d.1.1.1));
      some = (
        subst (λ k. first % k ≡ 0) size group.aligned,
        omega (arith, group.inside, size),
        search rules,
        subst (λ (k : Key). HoldsWords k n.view.own f c.args.count) same got.claimed.own,
      );
      apart = apart_as same got.claimed.apart;
      none = search rules;
      alone_some = λ h.
          group_taken l.key m.key c.args.child c.args.order c.args.count first m.words l.words n.words _ _ same c.requires.order
          c.requires.count (tried h);
      alone_none = search rules;
    }

pub returns : goal.returns
returns g c =
    let M = g.M.Moves in
    let m = M.at c.args.m.now in
    let was = c.loop-i.invariant in
    let all = turns_all c.args.order c.args.count c.loop-i._i c.requires.wide c.requires.order c.requires.count
    c.loop-i.auto._i-end in
    record {
      keeps = was.keeps;
      counts = at_most g.met.M.Moves.ticks was.counts (omega (arith, all));
      sure = sure_where was.look (λ ws d. was.sure d.0);
      some = search rules;
      apart = search rules;
      none = was.view;
      alone_some = search rules;
      alone_none = λ h.
          look_again m.key c.args.child c.loop-i._i c.loop-i.words m.words (M.at c.loop-i.m).words _
          (some_try c.args.order c.args.count c.loop-i._i c.requires.wide c.requires.order c.requires.count
          (omega (arith, c.loop-i-test.false))) (was.look h);
    }
