use Rattle.std.proofs.Common.{◌≡◌, ℕ, ◌+◌, ◌*◌, ◌/◌, ◌^◌, ◌<◌, ◌≤◌, ap, sym, subst, ◌∙◌, arith, rules}
use Rattle.frame_model.specs.declared.key.Key.{Key}
use Rattle.frame_model.specs.declared.view.View.{View}
use Rattle.frame_model.specs.Block.{block}
use Rattle.low_frames.proofs.TakeLemmas.{keeps_both, apart_as}
use Rattle.low_frames.proofs.Counts.{at_most, both_counts, out_counts, make_counts}
use Rattle.low_frames.proofs.Sure.{sure_both, sure_out, sure_make}
use Rattle.low_frames.proofs.GiveLemmas.{size_in_words}
use Rattle.low_frames.proofs.ViewLemmas.{charged_of, can_refund, refunded, flight_apart, flight_not_boot, flight_inside}
use Rattle.low_frames.proofs.WordsLemmas.{words_cover}
use Rattle.low_frames.proofs.WideLemmas.{can_hand_out_words, handed_out_words}
use Rattle.low_frames.proofs.AloneTakes.{few_none}
use Rattle.low_frames.proofs.WideAlone.{wide_taken, wide_none}
use Rattle.low_frames.proofs.wide.take_wide.Goals as goal

in_words : (order n : ℕ) → 7 ≤ order → order ≤ 8 → n ≡ 2 ^ order → 64 * (n / 64) ≡ 2 ^ order
in_words order n l h e = ap (λ k. 64 * (k / 64)) e ∙ sym (size_in_words order l h)

pub claim_group-requires : goal.claim_group-requires
claim_group-requires g c =
    let M = g.M.Moves in
    let size = in_words c.args.order c.frames_of-n.result c.requires.least c.requires.order c.frames_of-n.ensures.value in
    let charged = charged_of c.args.child c.frames_of-n.result (M.at c.args.m.now).view (M.at c.try_charge.new.m).view
    c.if-not-try_charge.ensures.view c.requires.charged in
    record {
      child = search rules;
      wide = c.requires.least;
      order = c.requires.order;
      count = omega (arith, size);
      share = search rules;
      own = search rules;
      charged = omega (arith, charged, size, c.frames_of-n.ensures.value);
      paid = search rules;
    }

pub hand_out-requires : goal.hand_out-requires
hand_out-requires g c =
    let M = g.M.Moves in
    let got = c.in-Some.ensures.some in
    let charged = M.at c.try_charge.new.m in
    let l = M.at c.claim_group.new.m in
    let tried = c.if-not-try_charge.ensures in
    let size = in_words c.args.order c.frames_of-n.result c.requires.least c.requires.order c.frames_of-n.ensures.value in
    can_hand_out_words charged.key c.args.child c.args.order c.in-Some.first (c.frames_of-n.result / 64) c.frames_of-n.result
    (M.at c.args.m.now).view charged.view l.view c.requires.least c.requires.order size got.0 got.1
    (subst (λ (x : Key). c.args.child < x.children) (sym tried.keeps.same_key) c.requires.child) tried.view got.2 got.3 l.key
    c.in-Some.ensures.keeps.same_key c.requires.share

pub refund-requires : goal.refund-requires
refund-requires g c =
    let M = g.M.Moves in
    let tried = c.if-not-try_charge.ensures in
    let claimed = c.in-None.ensures in
    record {
      share = search rules;
      may = can_refund (M.at c.claim_group.new.m).key (M.at c.args.m.now).key c.args.child c.frames_of-n.result
          (M.at c.args.m.now).view (M.at c.try_charge.new.m).view (M.at c.claim_group.new.m).view
          (claimed.keeps.same_key ∙ tried.keeps.same_key) c.requires.child tried.view c.requires.charged claimed.none;
    }

pub returns-then-not-try_charge : goal.returns-then-not-try_charge
returns-then-not-try_charge g c =
    let M = g.M.Moves in
    let m = M.at c.args.m.now in
    let tried = c.if-not-try_charge.ensures in
    record {
      keeps = tried.keeps;
      counts = at_most g.met.M.Moves.ticks tried.counts (omega arith);
      sure = tried.sure;
      some = tt;
      none = record {
        view = tried.view;
        alone = λ alone.
            few_none m.is_alone m.key m.words m.view (g.met.M.Moves.fits c.args.m.now) alone c.args.child c.requires.child
            c.requires.charged c.args.order c.frames_of-n.result (M.at c.try_charge.new.m).words c.frames_of-n.ensures.value
            (tried.alone alone);
      };
    }

pub returns-in-Some : goal.returns-in-Some
returns-in-Some g c =
    let M = g.M.Moves in
    let ticks = g.met.M.Moves.ticks in
    let m = M.at c.args.m.now in
    let charged = M.at c.try_charge.new.m in
    let l = M.at c.claim_group.new.m in
    let still = g.met.M.Moves.stays_alone c.claim_group.new.m in
    let tried = c.if-not-try_charge.ensures in
    let claimed = c.in-Some.ensures in
    let out = c.hand_out.ensures in
    let b = block (512 * c.args.child + 64 * c.in-Some.first) c.args.order in
    let d = g.M.Held.HeldBlock.block_of c.hand_out.result in
    let size = in_words c.args.order c.frames_of-n.result c.requires.least c.requires.order c.frames_of-n.ensures.value in
    let covers = words_cover charged.key l.view b d (8 * c.args.child + c.in-Some.first) (c.frames_of-n.result / 64) out.is_block
    (omega arith) size claimed.some.3 in
    let apart = apart_as tried.keeps.same_key claimed.apart in
    record {
      keeps = keeps_both tried.keeps (keeps_both claimed.keeps out.keeps);
      counts = at_most ticks (both_counts ticks tried.counts (both_counts ticks claimed.counts (out_counts ticks out))) (omega arith);
      sure = sure_both tried.sure (sure_both claimed.sure (sure_out still out));
      some = record {
        view =
            handed_out_words charged.key c.args.child c.args.order c.in-Some.first (c.frames_of-n.result / 64) c.frames_of-n.result
            m.view charged.view l.view c.requires.least c.requires.order size claimed.some.0 claimed.some.1
            (subst (λ (x : Key). c.args.child < x.children) (sym tried.keeps.same_key) c.requires.child) tried.view claimed.some.2
            claimed.some.3 M.tick (M.at c.hand_out.new.self).view c.frames_of-n.ensures.value c.requires.charged c.requires.own out.view;
        is_out = search rules;
        is_one = search rules;
        apart = flight_apart d covers apart (ap (λ (v : View). v.kept) claimed.some.2 ∙ ap (λ (v : View). v.kept) tried.view);
        no_boot_frame = flight_not_boot d covers apart;
        inside = flight_inside d covers apart (subst (λ (n : ℕ). 0 < n) (sym (ap (λ (v : View). v.share) claimed.some.2
            ∙ ap (λ (v : View). v.share) tried.view)) c.requires.share);
        alone = λ alone.
            let mid = tried.keeps.stays_alone alone in
            wide_taken m.key charged.key m.view m.is_alone c.args.child c.frames_of-n.result b d m.words charged.words l.words
            (M.at c.hand_out.new.self).words tried.keeps.same_key c.requires.child out.is_block (g.met.M.Moves.fits c.args.m.now)
            (tried.alone alone) (claimed.alone_some mid) (out.words (still (claimed.keeps.stays_alone mid)));
      };
      none = tt;
    }

pub returns-in-None : goal.returns-in-None
returns-in-None g c =
    let M = g.M.Moves in
    let ticks = g.met.M.Moves.ticks in
    let m = M.at c.args.m.now in
    let charged = M.at c.try_charge.new.m in
    let l = M.at c.claim_group.new.m in
    let still = g.met.M.Moves.stays_alone c.claim_group.new.m in
    let tried = c.if-not-try_charge.ensures in
    let claimed = c.in-None.ensures in
    let back = c.refund.ensures in
    record {
      keeps = keeps_both tried.keeps (keeps_both claimed.keeps back.keeps);
      counts = at_most ticks (both_counts ticks tried.counts (both_counts ticks claimed.counts (make_counts ticks back))) (omega arith);
      sure = sure_both tried.sure (sure_both claimed.sure (sure_make still back));
      some = tt;
      none = record {
        view = refunded M.tick c.args.child c.frames_of-n.result m.view charged.view l.view (M.at c.refund.new.self).view tried.view
            c.requires.charged claimed.none back.view;
        alone = λ alone.
            let mid = tried.keeps.stays_alone alone in
            wide_none m.key charged.key l.key m.view m.is_alone c.args.child c.args.order c.frames_of-n.result m.words charged.words
            l.words (M.at c.refund.new.self).words tried.keeps.same_key (claimed.keeps.same_key ∙ tried.keeps.same_key)
            c.requires.child (g.met.M.Moves.fits c.args.m.now) (tried.alone alone) (claimed.alone_none mid)
            (back.words (still (claimed.keeps.stays_alone mid)));
      };
    }
