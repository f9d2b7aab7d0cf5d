use Rattle.std.proofs.Common.{◌≡◌, ℕ, ◌+◌, ◌-◌, ◌*◌, List, refl, subst, arith, rules}
use Rattle.frame_model.specs.declared.key.Key.{Key}
use Rattle.frame_model.specs.Words.{bits_place}
use Rattle.frame_core.specs.Moves.{ReadsBut, release_run}
use Rattle.low_frames.proofs.TakeLemmas.{keeps_none, keeps_both}
use Rattle.low_frames.proofs.Counts.{at_most, none_made, both_counts, make_counts}
use Rattle.low_frames.proofs.Sure.{sure_none, sure_both, sure_make, loses_nothing, loses_both, loses_none_make}
use Rattle.low_frames.proofs.GiveLemmas.{words_at, none_released, can_release_word, released_more, words_left, all_released}
use Rattle.low_frames.proofs.WideLemmas.{reads_outside}
use Rattle.low_frames.proofs.GiveAlone.{none_given, given_more}
use Rattle.low_frames.specs.Groups.{HoldsMoreWords, HasGivenWords}
use Rattle.low_frames.proofs.AloneLemmas.{of_recalled, to_known, also_recalled}
use Rattle.low_frames.proofs.gives.release_words.Goals as goal

pub loop-i-init : goal.loop-i-init
loop-i-init g c =
    let m = g.M.Moves.at c.args.m.now in
    let f : ℕ = 8 * c.args.child + c.args.first in
    record {
      keeps = keeps_none m;
      view = none_released c.args.child m.view;
      own = words_at m.key m.view.own f (f + 0) c.args.count (c.args.count - 0) (omega arith) (omega arith) c.requires.own;
      read = λ w out. refl;
      counts = none_made g.met.M.Moves.ticks m;
      sure = sure_none m;
      loses = loses_nothing m;
      knows = λ some. absurd (omega (arith, some));
      given = λ h. none_given m.key m.recalled f;
    }

pub release-requires : goal.release-requires
release-requires g c =
    let M = g.M.Moves in
    let was = c.loop-i.invariant in
    let may = can_release_word (M.at c.loop-i.m).key (M.at c.args.m.now).key c.args.child c.args.first c.args.count c.loop-i.i
    (M.at c.args.m.now).view (M.at c.loop-i.m).view was.keeps.same_key c.requires.child c.requires.inside c.loop-i-test.true was.view
    was.own c.requires.charged c.requires.paid in
    (0, (6, (refl, record { share = search rules; may = may })))

pub loop-i-preserved : goal.loop-i-preserved
loop-i-preserved g c =
    let M = g.M.Moves in
    let ticks = g.met.M.Moves.ticks in
    let m = M.at c.args.m.now in
    let l = M.at c.loop-i.m in
    let n = M.at c.release.new.self in
    let was = c.loop-i.invariant in
    let made = c.release.ensures 0 6 refl in
    let still = g.met.M.Moves.stays_alone c.loop-i.m in
    let f : ℕ = 8 * c.args.child + c.args.first in
    record {
      keeps = keeps_both was.keeps made.keeps;
      view = released_more l.key m.key c.args.child c.args.first c.args.count c.loop-i.i m.view l.view was.keeps.same_key
          c.requires.child c.requires.inside c.loop-i-test.true was.view was.own M.tick n.view made.view;
      own = words_left l.key m.key c.args.child c.args.first c.args.count c.loop-i.i m.view l.view was.keeps.same_key
          c.requires.child c.requires.inside c.loop-i-test.true was.view was.own M.tick n.view made.view;
      read = reads_outside m.key (f + c.loop-i.i) f c.args.count m.read l.read n.read (omega arith) (omega arith) was.read
          (subst (λ (k : Key). ReadsBut (bits_place k (f + c.loop-i.i)) l.read n.read) was.keeps.same_key made.reads);
      counts = at_most ticks (both_counts ticks was.counts (make_counts ticks made)) (omega arith);
      sure = sure_both was.sure (sure_make still made);
      loses = loses_both was.loses (loses_none_make made);
      knows = λ some. made.knows;
      given = λ h.
          let calm = still (was.keeps.stays_alone h) in
          given_more l.key m.key l.view l.is_alone f c.args.count c.loop-i.i m.recalled l.recalled n.recalled was.keeps.same_key
          (omega arith) c.loop-i-test.true was.own (made.fits calm)
          (also_recalled l.key (release_run (f + c.loop-i.i) 0 6) l.recalled n.words n.recalled
          (g.met.M.Moves.recalls c.release.new.self) (made.recalled calm)) (was.given h);
    }

pub returns : goal.returns
returns g c =
    let M = g.M.Moves in
    let was = c.loop-i.invariant in
    let m = M.at c.args.m.now in
    let l = M.at c.loop-i.m in
    let f : ℕ = 8 * c.args.child + c.args.first in
    let all : c.loop-i.i ≡ c.args.count = omega (arith, c.loop-i-test.false, c.loop-i.auto.i-end) in
    let known = was.knows (omega (arith, all, c.requires.some)) in
    let given : m.is_alone → HasGivenWords m.key m.recalled l.words f c.args.count = λ h.
    subst (λ n. HasGivenWords m.key m.recalled l.words f n) all
    (to_known (λ ws us. HoldsMoreWords m.key us ws f c.loop-i.i) m.recalled l.words l.recalled known.0 known.1
    (g.met.M.Moves.recalls c.loop-i.m) (was.given h)) in
    record {
      keeps = was.keeps;
      loses_none = was.loses;
      recalled = given;
      counts = at_most g.met.M.Moves.ticks was.counts (omega (arith, c.loop-i.auto.i-end));
      sure = was.sure;
      view = all_released (M.at c.args.m.now).key c.args.child c.args.first c.args.count c.loop-i.i (M.at c.args.m.now).view
          (M.at c.loop-i.m).view c.requires.some (omega (arith, c.loop-i-test.false, c.loop-i.auto.i-end)) was.view was.own;
      read = was.read;
      alone = λ h.
          of_recalled (λ ws us. HoldsMoreWords m.key us ws f c.args.count) m.words m.recalled l.words
          (g.met.M.Moves.recalls c.args.m.now) (given h);
    }
