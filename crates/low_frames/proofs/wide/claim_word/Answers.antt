use Rattle.std.proofs.Common.{◌/◌, refl, sym, ◌∙◌, arith, rules}
use Rattle.std.proofs.lemmas.Bool.{false≢true}
use Rattle.low_frames.proofs.TakeLemmas.{keeps_both, apart_as, reads_both}
use Rattle.low_frames.proofs.Counts.{at_most, both_counts, load_counts, try_counts}
use Rattle.low_frames.proofs.Sure.{loses_both, loses_none_made}
use Rattle.low_frames.proofs.FlightLemmas.{still_charges}
use Rattle.low_frames.proofs.WideAlone.{then_holds, both_hold, word_claimed}
use Rattle.low_frames.proofs.WideLemmas.{can_claim_word, claimed_then}
use Rattle.low_frames.proofs.wide.claim_word.Goals as goal

pub claim-requires : goal.claim-requires
claim-requires g c =
    let M = g.M.Moves in
    let was = c.loop-i.invariant in
    let may = can_claim_word (M.at c.loop-i.m).key (M.at c.args.m.now).key (M.at c.args.m.now).view (M.at c.loop-i.m).view c.args.word
    was.keeps.same_key was.view c.requires.word c.requires.charged c.requires.paid in
    (0, (6, (refl, record { share = search rules; seen = search rules; may = may })))

pub load-seen-requires : goal.load-seen-requires
load-seen-requires g c = let made = c.claim.ensures 0 6 refl in search rules

pub returns-then-claim : goal.returns-then-claim
returns-then-claim g c =
    let M = g.M.Moves in
    let ticks = g.met.M.Moves.ticks in
    let m = M.at c.args.m.now in
    let l = M.at c.loop-i.m in
    let n = M.at c.claim.new.self in
    let was = c.loop-i.invariant in
    let tried = c.claim.ensures 0 6 refl in
    let still = g.met.M.Moves.stays_alone c.loop-i.m in
    let counts = both_counts ticks was.counts (try_counts ticks tried) in
    record {
      keeps = keeps_both was.keeps tried.keeps;
      counts = at_most ticks counts (omega (arith, c.loop-i-test.true));
      read = reads_both l.key m.key c.args.word m.read l.read n.read was.keeps.same_key was.read tried.reads;
      claimed = record {
        view = claimed_then c.args.word (M.tick l.view.moves) m.view l.view n.view was.view (c.if-claim.ensures 0 6 refl).view;
        apart = apart_as was.keeps.same_key tried.apart;
        counts = at_most ticks counts (omega (arith, c.loop-i-test.true));
      };
      lost = tt;
      alone = λ h.
          let claimed = word_claimed l.key m.key l.view l.is_alone c.args.word c.loop-i._i c.claim.result m.words l.words n.words
          was.keeps.same_key c.requires.word
          (still_charges (c.args.word / 8) 64 m.view l.view was.view (omega arith) c.requires.charged)
          (g.met.M.Moves.fits c.loop-i.m) (was.first h) (tried.words (still (was.keeps.stays_alone h))) in
          then_holds m.key m.words c.args.word 1 _ _ (both_hold m.key m.words c.args.word 1 _ _ (was.first h) claimed)
          (λ d. (refl, (d.1.1, loses_both (was.none d.0.0) (loses_none_made d.1.0 tried))));
    }

pub returns-then-seen-ne0 : goal.returns-then-seen-ne0
returns-then-seen-ne0 g c =
    let M = g.M.Moves in
    let ticks = g.met.M.Moves.ticks in
    let m = M.at c.args.m.now in
    let l = M.at c.loop-i.m in
    let n = M.at c.claim.new.self in
    let was = c.loop-i.invariant in
    let tried = c.claim.ensures 0 6 refl in
    let load = c.load-seen.ensures in
    let still = g.met.M.Moves.stays_alone c.loop-i.m in
    record {
      keeps = keeps_both was.keeps (keeps_both tried.keeps load.keeps);
      counts = at_most ticks (both_counts ticks was.counts (both_counts ticks (try_counts ticks tried) (load_counts ticks load)))
          (omega (arith, c.loop-i-test.true));
      read = search rules;
      claimed = tt;
      lost = search rules;
      alone = λ h.
          then_holds m.key m.words c.args.word 1 _ _
          (word_claimed l.key m.key l.view l.is_alone c.args.word c.loop-i._i c.claim.result m.words l.words n.words
          was.keeps.same_key c.requires.word
          (still_charges (c.args.word / 8) 64 m.view l.view was.view (omega arith) c.requires.charged)
          (g.met.M.Moves.fits c.loop-i.m) (was.first h) (tried.words (still (was.keeps.stays_alone h))))
          (λ d. absurd (false≢true (sym c.if-claim.false ∙ d.0)));
    }

pub loop-i-preserved : goal.loop-i-preserved
loop-i-preserved g c =
    let M = g.M.Moves in
    let ticks = g.met.M.Moves.ticks in
    let m = M.at c.args.m.now in
    let l = M.at c.loop-i.m in
    let was = c.loop-i.invariant in
    let tried = c.claim.ensures 0 6 refl in
    let load = c.load-seen.ensures in
    let still = g.met.M.Moves.stays_alone c.loop-i.m in
    record {
      keeps = keeps_both was.keeps (keeps_both tried.keeps load.keeps);
      view = search rules;
      seen = search rules;
      read = search rules;
      counts = at_most ticks (both_counts ticks was.counts (both_counts ticks (try_counts ticks tried) (load_counts ticks load)))
          (omega arith);
      first = λ h.
          then_holds m.key m.words c.args.word 1 _ _
          (word_claimed l.key m.key l.view l.is_alone c.args.word c.loop-i._i c.claim.result m.words l.words
          (M.at c.claim.new.self).words was.keeps.same_key c.requires.word
          (still_charges (c.args.word / 8) 64 m.view l.view was.view (omega arith) c.requires.charged)
          (g.met.M.Moves.fits c.loop-i.m) (was.first h) (tried.words (still (was.keeps.stays_alone h))))
          (λ d. absurd (false≢true (sym c.if-claim.false ∙ d.0)));
      none = λ e. absurd (omega (arith, e));
    }

pub returns : goal.returns
returns g c =
    let M = g.M.Moves in
    let m = M.at c.args.m.now in
    let was = c.loop-i.invariant in
    record {
      keeps = was.keeps;
      counts = at_most g.met.M.Moves.ticks was.counts (omega (arith, c.loop-i.auto._i-end));
      read = was.read;
      claimed = tt;
      lost = search rules;
      alone = λ h. then_holds m.key m.words c.args.word 1 _ _ (was.first h) (λ d. absurd (omega (arith, d.0, c.loop-i-test.false)));
    }
