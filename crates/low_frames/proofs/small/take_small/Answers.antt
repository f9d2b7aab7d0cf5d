use Rattle.std.proofs.Common.{◌<◌, ◌∙◌, ◌∷◌, ℕ, ap, sym, subst, arith, rules}
use Rattle.frame_model.specs.declared.view.View.{View}
use Rattle.frame_model.specs.Block.{block}
use Rattle.low_frames.proofs.TakeLemmas.{keeps_both, apart_as}
use Rattle.low_frames.proofs.Counts.{at_most, both_counts, out_counts, make_counts}
use Rattle.low_frames.proofs.Sure.{sure_both, sure_out, sure_make}
use Rattle.low_frames.proofs.ViewLemmas.{charged_of, can_hand_out_claimed, can_refund, refunded, handed_out}
use Rattle.low_frames.proofs.ViewLemmas.{own_covers, flight_apart, flight_not_boot, flight_inside}
use Rattle.low_frames.proofs.AloneTakes.{few_none, small_taken_known, small_none_known}
use Rattle.low_frames.proofs.small.take_small.Goals as goal

pub claim_in-requires : goal.claim_in-requires
claim_in-requires g c =
    let M = g.M.Moves in
    record {
      child = search rules;
      order = c.requires.order;
      share = search rules;
      charged = omega (
        arith,
        charged_of c.args.child c.frames_of-n.result (M.at c.args.m.now).view (M.at c.try_charge.new.m).view
            c.if-not-try_charge.ensures.view c.requires.charged,
        c.frames_of-n.ensures.value,
      );
      paid = search rules;
    }

pub hand_out-requires : goal.hand_out-requires
hand_out-requires g c =
    let M = g.M.Moves in
    let s = c.in-Some.ensures.some in
    can_hand_out_claimed (M.at c.claim_in.new.m).key (M.at c.try_charge.new.m).key c.args.child c.in-Some.frame c.args.order
    c.frames_of-n.result (M.at c.args.m.now).view (M.at c.try_charge.new.m).view (M.at c.claim_in.new.m).view
    c.in-Some.ensures.keeps.same_key (omega (arith, c.requires.order)) c.requires.share c.if-not-try_charge.ensures.view
    c.requires.own s.1 s.0.is_block

pub refund-requires : goal.refund-requires
refund-requires g c =
    let M = g.M.Moves in
    let tried = c.if-not-try_charge.ensures in
    let claimed = c.in-None.ensures in
    record {
      share = search rules;
      may = can_refund (M.at c.claim_in.new.m).key (M.at c.args.m.now).key c.args.child c.frames_of-n.result (M.at c.args.m.now).view
          (M.at c.try_charge.new.m).view (M.at c.claim_in.new.m).view (claimed.keeps.same_key ∙ tried.keeps.same_key)
          c.requires.child tried.view c.requires.charged claimed.none;
    }

pub returns-then-not-try_charge : goal.returns-then-not-try_charge
returns-then-not-try_charge g c =
    let M = g.M.Moves in
    let m = M.at c.args.m.now in
    let tried = c.if-not-try_charge.ensures in
    record {
      keeps = tried.keeps;
      counts = at_most g.met.M.Moves.ticks tried.counts (omega arith);
      sure = tried.sure;
      some = tt;
      none = record {
        view = tried.view;
        alone = λ alone.
            few_none m.is_alone m.key m.words m.view (g.met.M.Moves.fits c.args.m.now) alone c.args.child c.requires.child
            c.requires.charged c.args.order c.frames_of-n.result (M.at c.try_charge.new.m).words c.frames_of-n.ensures.value
            (tried.alone alone);
      };
    }

pub returns-in-Some : goal.returns-in-Some
returns-in-Some g c =
    let M = g.M.Moves in
    let ticks = g.met.M.Moves.ticks in
    let m = M.at c.args.m.now in
    let charged = M.at c.try_charge.new.m in
    let l = M.at c.claim_in.new.m in
    let still = g.met.M.Moves.stays_alone c.claim_in.new.m in
    let tried = c.if-not-try_charge.ensures in
    let claimed = c.in-Some.ensures in
    let out = c.hand_out.ensures in
    let b = block c.in-Some.frame c.args.order in
    let d = g.M.Held.HeldBlock.block_of c.hand_out.result in
    let covers = own_covers m.view l.view b d out.is_block
    (ap (λ (v : View). v.own) claimed.some.1 ∙ ap (λ (v : View). b ∷ v.own) tried.view) in
    let apart = apart_as tried.keeps.same_key claimed.apart in
    record {
      keeps = keeps_both tried.keeps (keeps_both claimed.keeps out.keeps);
      counts = at_most ticks (both_counts ticks tried.counts (both_counts ticks claimed.counts (out_counts ticks out))) (omega arith);
      sure = sure_both tried.sure (sure_both claimed.sure (sure_out still out));
      some = record {
        view =
            handed_out M.tick charged.key c.args.child c.in-Some.frame c.args.order c.frames_of-n.result m.view charged.view l.view
            (M.at c.hand_out.new.self).view c.frames_of-n.ensures.value tried.view c.requires.charged c.requires.own claimed.some.1
            claimed.some.0.is_block out.view;
        is_out = search rules;
        is_one = search rules;
        apart = flight_apart d covers apart (ap (λ (v : View). v.kept) claimed.some.1 ∙ ap (λ (v : View). v.kept) tried.view);
        no_boot_frame = flight_not_boot d covers apart;
        inside = flight_inside d covers apart (subst (λ (n : ℕ). 0 < n) (sym (ap (λ (v : View). v.share) claimed.some.1
            ∙ ap (λ (v : View). v.share) tried.view)) c.requires.share);
        alone = λ alone.
            let mid = tried.keeps.stays_alone alone in
            small_taken_known m.is_alone m.key m.words m.view (g.met.M.Moves.fits c.args.m.now) alone c.args.child c.requires.child
            c.requires.charged c.frames_of-n.result c.in-Some.frame c.args.order d charged.words l.words
            (M.at c.hand_out.new.self).words charged.key c.requires.order tried.keeps.same_key claimed.some.0 out.is_block
            (tried.alone alone) (claimed.alone_some mid) (out.words (still (claimed.keeps.stays_alone mid)));
      };
      none = tt;
    }

pub returns-in-None : goal.returns-in-None
returns-in-None g c =
    let M = g.M.Moves in
    let ticks = g.met.M.Moves.ticks in
    let m = M.at c.args.m.now in
    let charged = M.at c.try_charge.new.m in
    let l = M.at c.claim_in.new.m in
    let still = g.met.M.Moves.stays_alone c.claim_in.new.m in
    let tried = c.if-not-try_charge.ensures in
    let claimed = c.in-None.ensures in
    let back = c.refund.ensures in
    record {
      keeps = keeps_both tried.keeps (keeps_both claimed.keeps back.keeps);
      counts = at_most ticks (both_counts ticks tried.counts (both_counts ticks claimed.counts (make_counts ticks back))) (omega arith);
      sure = sure_both tried.sure (sure_both claimed.sure (sure_make still back));
      some = tt;
      none = record {
        view = refunded M.tick c.args.child c.frames_of-n.result m.view charged.view l.view (M.at c.refund.new.self).view tried.view
            c.requires.charged claimed.none back.view;
        alone = λ alone.
            let mid = tried.keeps.stays_alone alone in
            small_none_known m.is_alone m.key m.words m.view (g.met.M.Moves.fits c.args.m.now) alone c.args.child c.requires.child
            c.requires.charged c.frames_of-n.result c.args.order charged.words l.words (M.at c.refund.new.self).words charged.key l.key
            c.requires.order tried.keeps.same_key (claimed.keeps.same_key ∙ tried.keeps.same_key) (tried.alone alone)
            (claimed.alone_none mid) (back.words (still (claimed.keeps.stays_alone mid)));
      };
    }
