use Rattle.std.proofs.Common.{◌≡◌, ℕ, ◌+◌, ◌*◌, List, Some, subst, arith, rules}
use Rattle.frame_model.specs.declared.key.Key.{Key}
use Rattle.low_frames.specs.Groups.{HoldsWords, HoldsMoreWords, HasTakenWords}
use Rattle.low_frames.specs.Takes.{LosesNone}
use Rattle.low_frames.proofs.TakeLemmas.{still_as_before, keeps_both, apart_as}
use Rattle.low_frames.proofs.Counts.{at_most, both_counts, load_counts}
use Rattle.low_frames.proofs.Sure.{loses_both, sure_both, sure_load, sure_by_words}
use Rattle.low_frames.proofs.AloneLemmas.{at_known}
use Rattle.low_frames.proofs.FlightLemmas.{still_charges}
use Rattle.low_frames.proofs.WideAlone.{look_lost, not_lost}
use Rattle.low_frames.proofs.PlaceLemmas.{clear_more, read_more, word_not_free, words_tried, words_taken}
use Rattle.low_frames.proofs.places.claim_words_at.Goals as goal

pub loop-i-preserved : goal.loop-i-preserved
loop-i-preserved g c =
    let M = g.M.Moves in
    let ticks = g.met.M.Moves.ticks in
    let m = M.at c.args.m.now in
    let l = M.at c.loop-i.m in
    let n = M.at c.load.new.self in
    let was = c.loop-i.invariant in
    let load = c.load.ensures in
    let still = g.met.M.Moves.stays_alone c.loop-i.m in
    let f : ℕ = 8 * c.args.child + c.args.first in
    let k = was.keeps.same_key in
    record {
      keeps = keeps_both was.keeps load.keeps;
      view = still_as_before m.view l.view n.view (M.tick l.view.moves) l.view.lost was.view load.view;
      seen = read_more l.key m.key f c.loop-i.i c.load.result l.read n.read k c.if-load-ne0.false load.here load.reads was.seen;
      counts = at_most ticks (both_counts ticks was.counts (load_counts ticks load)) (omega arith);
      sure = sure_both was.sure (sure_load still load);
      clear = λ h.
          clear_more l.key m.key f c.loop-i.i c.load.result m.words l.words n.words k c.if-load-ne0.false (was.clear h)
          (load.words (still (was.keeps.stays_alone h)));
    }

pub returns-then-load-ne0 : goal.returns-then-load-ne0
returns-then-load-ne0 g c =
    let M = g.M.Moves in
    let ticks = g.met.M.Moves.ticks in
    let m = M.at c.args.m.now in
    let l = M.at c.loop-i.m in
    let n = M.at c.load.new.self in
    let was = c.loop-i.invariant in
    let load = c.load.ensures in
    let still = g.met.M.Moves.stays_alone c.loop-i.m in
    let f : ℕ = 8 * c.args.child + c.args.first in
    record {
      keeps = keeps_both was.keeps load.keeps;
      counts = at_most ticks (both_counts ticks was.counts (load_counts ticks load)) (omega (arith, c.loop-i-test.true));
      sure = sure_both was.sure (sure_load still load);
      view = still_as_before m.view l.view n.view (M.tick l.view.moves) l.view.lost was.view load.view;
      apart = λ e. absurd (cc);
      alone = λ h.
          word_not_free l.key m.key l.view l.is_alone f c.args.count c.loop-i.i c.load.result m.words l.words n.words
          was.keeps.same_key (omega (arith, c.if-load-ne0.true)) c.loop-i-test.true
          (omega (arith, c.requires.child, c.requires.inside)) (g.met.M.Moves.fits c.loop-i.m) (was.clear h)
          (load.words (still (was.keeps.stays_alone h)));
    }

pub claim_words-requires : goal.claim_words-requires
claim_words-requires g c = search rules

pub returns-in-None : goal.returns-in-None
returns-in-None g c =
    let M = g.M.Moves in
    let m = M.at c.args.m.now in
    let l = M.at c.loop-i.m in
    let n = M.at c.claim_words.new.m in
    let was = c.loop-i.invariant in
    let got = c.in-None.ensures in
    let f : ℕ = 8 * c.args.child + c.args.first in
    let same = was.keeps.same_key in
    let tried = λ (h : m.is_alone).
    words_tried l.key m.key l.view l.is_alone c.args.child c.args.first c.args.count c.loop-i.i m.words l.words _ same
    c.loop-i-test.false c.requires.child c.requires.inside
    (still_charges c.args.child (64 * c.args.count) m.view l.view was.view (omega (arith, c.requires.some)) c.requires.charged)
    (g.met.M.Moves.fits c.loop-i.m) (was.clear h) (got.alone (was.keeps.stays_alone h)) in
    record {
      keeps = keeps_both was.keeps got.keeps;
      counts = at_most g.met.M.Moves.ticks (both_counts g.met.M.Moves.ticks was.counts got.counts) (omega arith);
      sure = sure_by_words (λ h. got.keeps.stays_alone (was.keeps.stays_alone h)) tried
          (λ ws s d.
          let known = at_known l.words (λ ws. (us : List ℕ) × ((n.words ≡ Some us) × HoldsMoreWords l.key ws us f c.args.count))
          ws d.0 d.1.1.0 in
          ((known.0, known.1.0), loses_both (was.sure.loses_none s) d.1.1.1));
      view = record {
        view = search rules;
        own = subst (λ (k : Key). HoldsWords k n.view.own f c.args.count) same got.claimed.own;
      };
      apart = λ e. apart_as same got.claimed.apart;
      alone = λ h. words_taken l.key m.key f c.args.count m.words l.words n.words _ _ same (tried h);
    }

pub returns-in-Some : goal.returns-in-Some
returns-in-Some g c =
    let M = g.M.Moves in
    let m = M.at c.args.m.now in
    let l = M.at c.loop-i.m in
    let n = M.at c.claim_words.new.m in
    let was = c.loop-i.invariant in
    let got = c.in-Some.ensures in
    let f : ℕ = 8 * c.args.child + c.args.first in
    let tried = λ (h : m.is_alone).
    words_tried l.key m.key l.view l.is_alone c.args.child c.args.first c.args.count c.loop-i.i m.words l.words _ was.keeps.same_key
    c.loop-i-test.false c.requires.child c.requires.inside
    (still_charges c.args.child (64 * c.args.count) m.view l.view was.view (omega (arith, c.requires.some)) c.requires.charged)
    (g.met.M.Moves.fits c.loop-i.m) (was.clear h) (got.alone (was.keeps.stays_alone h)) in
    record {
      keeps = keeps_both was.keeps got.keeps;
      counts = at_most g.met.M.Moves.ticks (both_counts g.met.M.Moves.ticks was.counts got.counts) (omega arith);
      sure = sure_by_words (λ h. got.keeps.stays_alone (was.keeps.stays_alone h)) tried (λ ws s d. not_lost _ _ d.1.0);
      view = still_as_before m.view l.view n.view n.view.moves n.view.lost was.view got.lost.view;
      apart = λ e. absurd (cc);
      alone = λ h.
          look_lost m.words l.words _ (HasTakenWords l.key l.words n.words f c.args.count × LosesNone l n) _ (tried h);
    }
