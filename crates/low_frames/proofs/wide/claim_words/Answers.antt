use Rattle.std.proofs.Common.{None, Some, inl, inr, ⊎_elim, ℕ, ◌+◌, ◌*◌, refl, sym, subst, ◌∙◌, arith, rules}
use Rattle.frame_model.specs.declared.key.Key.{Key}
use Rattle.frame_model.specs.Words.{bits_place}
use Rattle.frame_core.specs.Moves.{ReadsBut}
use Rattle.low_frames.specs.Takes.{LosesNone}
use Rattle.low_frames.specs.Groups.{HoldsWords, ReadsOutside}
use Rattle.low_frames.proofs.TakeLemmas.{keeps_none, keeps_both, apart_as}
use Rattle.low_frames.proofs.Counts.{at_most, none_made, both_counts}
use Rattle.low_frames.proofs.Sure.{loses_both}
use Rattle.low_frames.proofs.WordsLemmas.{words_none, no_words}
use Rattle.low_frames.proofs.GiveLemmas.{words_at}
use Rattle.low_frames.proofs.WideLemmas.{bits_apart, reads_outside, claimed_none, charged_still, paid_still, claimed_more, words_claimed}
use Rattle.low_frames.proofs.WideLemmas.{back_as_before, charges_here, pays_here, first_lost}
use Rattle.low_frames.proofs.WideAlone.{then_holds, none_taken, taken_more, not_lost}
use Rattle.low_frames.proofs.wide.claim_words.Goals as goal

pub loop-i-init : goal.loop-i-init
loop-i-init g c =
    let m = g.M.Moves.at c.args.m.now in
    let f : ℕ = 8 * c.args.child + c.args.first in
    record {
      keeps = keeps_none m;
      view = claimed_none c.args.child c.args.count m.view c.requires.some c.requires.charged c.requires.paid;
      own = subst (λ l. HoldsWords m.key l f 0) (sym c.requires.own) (words_none m.key f);
      seen = λ w l h. c.requires.seen w (omega arith) (omega arith);
      read = λ w out. refl;
      counts = none_made g.met.M.Moves.ticks m;
      apart = λ some. absurd (omega (arith, some));
      taken = λ h. none_taken m f c.args.count;
    }

pub claim_word-requires : goal.claim_word-requires
claim_word-requires g c =
    let M = g.M.Moves in
    let v = (M.at c.args.m.now).view in
    let u = (M.at c.loop-i.m).view in
    let was = c.loop-i.invariant in
    record {
      word = search rules;
      share = search rules;
      charged = charged_still c.args.child c.args.first c.args.count c.loop-i.i v u c.requires.inside c.loop-i-test.true was.view
          c.requires.charged;
      paid = paid_still c.args.child c.args.first c.args.count c.loop-i.i v u c.requires.inside c.loop-i-test.true was.view
          c.requires.paid;
      seen = search rules;
    }

pub release_words-requires : goal.release_words-requires
release_words-requires g c =
    let M = g.M.Moves in
    let v = (M.at c.args.m.now).view in
    let u = (M.at c.loop-i.m).view in
    let w = (M.at c.claim_word.new.m).view in
    let was = c.loop-i.invariant in
    let lost = c.in-Some.ensures.lost in
    record {
      child = search rules;
      inside = search rules;
      some = search rules;
      share = search rules;
      own = search rules;
      charged = charges_here c.args.child c.args.first c.args.count c.loop-i.i v u c.requires.inside c.loop-i-test.true was.view w
          c.requires.charged lost.1;
      paid = pays_here c.args.child c.args.first c.args.count c.loop-i.i v u c.requires.inside c.loop-i-test.true was.view w
          c.requires.paid lost.1;
    }

pub returns-then-i-eq0 : goal.returns-then-i-eq0
returns-then-i-eq0 g c =
    let M = g.M.Moves in
    let m = M.at c.args.m.now in
    let l = M.at c.loop-i.m in
    let n = M.at c.claim_word.new.m in
    let was = c.loop-i.invariant in
    let claimed = c.in-Some.ensures in
    let f : ℕ = 8 * c.args.child + c.args.first in
    let nothing = no_words m.key l.view.own f (words_at m.key l.view.own f f c.loop-i.i 0 refl c.if-i-eq0.true was.own) in
    record {
      keeps = keeps_both was.keeps claimed.keeps;
      counts = at_most g.met.M.Moves.ticks (both_counts g.met.M.Moves.ticks was.counts claimed.counts)
          (omega (arith, c.loop-i-test.true));
      read = reads_outside m.key (f + c.loop-i.i) f c.args.count m.read l.read n.read (omega arith) (omega (arith, c.loop-i-test.true))
          was.read (subst (λ (k : Key). ReadsBut (bits_place k (f + c.loop-i.i)) l.read n.read) was.keeps.same_key claimed.read);
      claimed = tt;
      lost = record {
        from = omega arith;
        to = omega (arith, c.requires.some);
        not_clear = claimed.lost.0;
        view = first_lost c.args.child m.view l.view n.view c.loop-i.i c.if-i-eq0.true
            (omega (arith, c.requires.some, c.requires.charged)) (omega (arith, c.requires.some, c.requires.paid)) c.requires.own
            nothing was.view claimed.lost.1;
      };
      alone = λ h.
          then_holds m.key m.words f c.args.count _ _
          (taken_more l.key m.key f c.args.count c.loop-i.i (Some c.in-Some.found) m.words l.words n.words (LosesNone m l)
          (LosesNone l n) was.keeps.same_key (omega arith) c.loop-i-test.true (was.taken h)
          (claimed.alone (was.keeps.stays_alone h)))
          (λ d. not_lost c.in-Some.found _ d.0);
    }

pub returns-in-Some : goal.returns-in-Some
returns-in-Some g c =
    let M = g.M.Moves in
    let ticks = g.met.M.Moves.ticks in
    let m = M.at c.args.m.now in
    let l = M.at c.loop-i.m in
    let n = M.at c.claim_word.new.m in
    let r = M.at c.release_words.new.m in
    let was = c.loop-i.invariant in
    let lost = c.in-Some.ensures in
    let back = c.release_words.ensures in
    let f : ℕ = 8 * c.args.child + c.args.first in
    let claimed : ReadsOutside m.key f c.args.count m.read n.read =
    reads_outside m.key (f + c.loop-i.i) f c.args.count m.read l.read n.read (omega arith) (omega (arith, c.loop-i-test.true)) was.read
    (subst (λ (k : Key). ReadsBut (bits_place k (f + c.loop-i.i)) l.read n.read) was.keeps.same_key c.claim_word.ensures.read) in
    let released : ReadsOutside m.key f c.loop-i.i n.read r.read =
    subst (λ (k : Key). ReadsOutside k f c.loop-i.i n.read r.read) (lost.keeps.same_key ∙ was.keeps.same_key) back.read in
    record {
      keeps = keeps_both was.keeps (keeps_both lost.keeps back.keeps);
      counts = at_most ticks (both_counts ticks was.counts (both_counts ticks lost.counts back.counts))
          (omega (arith, c.loop-i-test.true));
      read = λ w out. released w (⊎_elim (λ a. inl a) (λ b. inr (omega (arith, c.loop-i-test.true))) out) ∙ claimed w out;
      claimed = tt;
      lost = record {
        from = omega arith;
        to = omega (arith, c.loop-i-test.true);
        not_clear = lost.lost.0;
        view = back_as_before c.args.child c.args.first c.args.count c.loop-i.i m.view l.view c.requires.inside c.loop-i-test.true
            was.view n.view r.view (omega (arith, c.if-i-eq0.false)) c.requires.own c.requires.charged c.requires.paid lost.lost.1
            back.view;
      };
      alone = λ h.
          then_holds m.key m.words f c.args.count _ _
          (taken_more l.key m.key f c.args.count c.loop-i.i (Some c.in-Some.found) m.words l.words n.words (LosesNone m l)
          (LosesNone l n) was.keeps.same_key (omega arith) c.loop-i-test.true (was.taken h)
          (lost.alone (was.keeps.stays_alone h)))
          (λ d. not_lost c.in-Some.found _ d.0);
    }

pub loop-i-preserved : goal.loop-i-preserved
loop-i-preserved g c =
    let M = g.M.Moves in
    let m = M.at c.args.m.now in
    let l = M.at c.loop-i.m in
    let n = M.at c.claim_word.new.m in
    let was = c.loop-i.invariant in
    let claimed = c.in_default.ensures.claimed in
    let f : ℕ = 8 * c.args.child + c.args.first in
    let but : ReadsBut (bits_place m.key (f + c.loop-i.i)) l.read n.read =
    subst (λ (k : Key). ReadsBut (bits_place k (f + c.loop-i.i)) l.read n.read) was.keeps.same_key c.claim_word.ensures.read in
    record {
      keeps = keeps_both was.keeps c.in_default.ensures.keeps;
      view = claimed_more c.args.child c.args.first c.args.count c.loop-i.i m.view l.view c.requires.inside c.loop-i-test.true was.view
          n.view claimed.view;
      own = words_claimed c.args.child c.args.first c.args.count c.loop-i.i m.view l.view c.requires.inside c.loop-i-test.true was.view
          m.key n.view c.requires.child claimed.view was.own;
      seen = λ x lo h.
          but (bits_place m.key x) (bits_apart m.key x (f + c.loop-i.i) (λ e. absurd (omega arith)))
          ∙ was.seen x (omega arith) (omega (arith, c.loop-i-test.true));
      read = reads_outside m.key (f + c.loop-i.i) f c.args.count m.read l.read n.read (omega arith) (omega (arith, c.loop-i-test.true))
          was.read but;
      counts = at_most g.met.M.Moves.ticks (both_counts g.met.M.Moves.ticks was.counts claimed.counts) (omega arith);
      apart = λ some. apart_as was.keeps.same_key claimed.apart;
      taken = λ h.
          then_holds m.key m.words f c.args.count _ _
          (taken_more l.key m.key f c.args.count c.loop-i.i None m.words l.words n.words (LosesNone m l) (LosesNone l n)
          was.keeps.same_key (omega arith) c.loop-i-test.true (was.taken h) (c.in_default.ensures.alone (was.keeps.stays_alone h)))
          (λ d. (d.1.0, loses_both d.1.1.0 d.1.1.1));
    }

pub returns : goal.returns
returns g c =
    let M = g.M.Moves in
    let m = M.at c.args.m.now in
    let was = c.loop-i.invariant in
    let f : ℕ = 8 * c.args.child + c.args.first in
    record {
      keeps = was.keeps;
      counts = at_most g.met.M.Moves.ticks was.counts (omega (arith, c.loop-i.auto.i-end));
      read = was.read;
      claimed = record {
        view = search rules;
        own = search rules;
        apart = was.apart (omega (arith, c.loop-i-test.false, c.requires.some));
      };
      lost = tt;
      alone = search rules;
    }
