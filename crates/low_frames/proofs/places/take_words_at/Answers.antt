use Rattle.std.proofs.Common.{◌≡◌, ℕ, ◌+◌, ◌*◌, ◌/◌, ◌%◌, ◌<◌, refl, ap, sym, subst, ◌∙◌, arith, rules}
use Rattle.frame_model.specs.declared.key.Key.{Key}
use Rattle.frame_model.specs.declared.view.View.{View}
use Rattle.frame_model.specs.Block.{block}
use Rattle.frame_model.specs.Seats.{CanHandOut, left_by}
use Rattle.frame_model.specs.Without.{without}
use Rattle.frame_core.specs.Moves.{hand_out_block}
use Rattle.low_frames.proofs.TakeLemmas.{keeps_both, apart_as}
use Rattle.low_frames.proofs.Counts.{at_most, both_counts, out_counts, make_counts}
use Rattle.low_frames.proofs.Sure.{sure_both, sure_out, sure_make}
use Rattle.low_frames.proofs.ViewLemmas.{charged_of, can_refund, refunded, flight_apart, flight_not_boot, flight_inside}
use Rattle.low_frames.proofs.WordsLemmas.{words_cover}
use Rattle.low_frames.proofs.WideLemmas.{can_hand_out_words, handed_out_words}
use Rattle.low_frames.proofs.AloneTakes.{few_none}
use Rattle.low_frames.proofs.WideAlone.{wide_taken}
use Rattle.low_frames.proofs.PlaceLemmas.{place_of_words, lies_in_child, child_inside, paid_at, handed_out_at, none_at, none_of_words, refused_at}
use Rattle.low_frames.proofs.PlaceLemmas.{taken_as_block}
use Rattle.low_frames.proofs.places.take_words_at.Goals as goal

pub claim_words_at-requires : goal.claim_words_at-requires
claim_words_at-requires g c =
    let M = g.M.Moves in
    let m = M.at c.args.m.now in
    let charged = M.at c.try_charge.new.m in
    let tried = c.if-not-try_charge.ensures in
    let p = place_of_words m.key c.child_of-child.result c.args.frame c.args.order c.frames_of-n.result c.requires.wide c.requires.order
    c.child_of-child.ensures c.frames_of-n.ensures.value c.requires.may.is_block in
    let child = c.child_of-child.result in
    let here = charged_of c.child_of-child.result c.frames_of-n.result m.view charged.view tried.view c.requires.may.charged in
    record {
      child = search rules;
      inside = p.inside;
      some = p.some;
      share = search rules;
      own = search rules;
      charged = omega (arith, here, p.size, c.frames_of-n.ensures.value);
      paid = paid_at child c.frames_of-n.result (64 * (c.frames_of-n.result / 64)) (c.args.frame / 4096) (child / 8) m.view charged.view
          tried.view (omega (arith, c.child_of-child.ensures)) (omega (arith, p.size, c.requires.may.paid));
    }

pub hand_out-requires : goal.hand_out-requires
hand_out-requires g c =
    let M = g.M.Moves in
    let m = M.at c.args.m.now in
    let charged = M.at c.try_charge.new.m in
    let l = M.at c.claim_words_at.new.m in
    let tried = c.if-not-try_charge.ensures in
    let got = c.if-not-claim_words_at.ensures in
    let first : ℕ = c.args.frame / 64 % 8 in
    let p = place_of_words m.key c.child_of-child.result c.args.frame c.args.order c.frames_of-n.result c.requires.wide c.requires.order
    c.child_of-child.ensures c.frames_of-n.ensures.value c.requires.may.is_block in
    subst (λ f. CanHandOut l.key l.view (block f c.args.order) (without (block f c.args.order) l.view.own)) p.begins
    (can_hand_out_words charged.key c.child_of-child.result c.args.order first (c.frames_of-n.result / 64) c.frames_of-n.result m.view
    charged.view l.view c.requires.wide c.requires.order p.size p.aligned p.inside
    (subst (λ (x : Key). c.child_of-child.result < x.children) (sym tried.keeps.same_key) p.in_memory) tried.view got.view.view got.view.own
    l.key got.keeps.same_key c.requires.may.share)

pub refund-requires : goal.refund-requires
refund-requires g c =
    let M = g.M.Moves in
    let m = M.at c.args.m.now in
    let tried = c.if-not-try_charge.ensures in
    let claimed = c.if-not-claim_words_at.ensures in
    record {
      share = search rules;
      may = can_refund (M.at c.claim_words_at.new.m).key m.key c.child_of-child.result c.frames_of-n.result m.view
          (M.at c.try_charge.new.m).view (M.at c.claim_words_at.new.m).view (claimed.keeps.same_key ∙ tried.keeps.same_key)
          (child_inside m.key c.child_of-child.result c.args.frame c.args.order c.child_of-child.ensures c.requires.may.is_block)
          tried.view c.requires.may.charged claimed.view;
    }

pub returns-then-not-try_charge : goal.returns-then-not-try_charge
returns-then-not-try_charge g c =
    let M = g.M.Moves in
    let m = M.at c.args.m.now in
    let tried = c.if-not-try_charge.ensures in
    let child = c.child_of-child.result in
    let at = c.child_of-child.ensures in
    let is = c.requires.may.is_block in
    record {
      keeps = tried.keeps;
      counts = at_most g.met.M.Moves.ticks tried.counts (omega arith);
      sure = tried.sure;
      some = tt;
      none = record {
        view = tried.view;
        alone = λ alone.
            none_at m.key child c.args.order (block c.args.frame c.args.order) m.words (M.at c.try_charge.new.m).words
            (lies_in_child m.key child c.args.frame c.args.order at is)
            (few_none m.is_alone m.key m.words m.view (g.met.M.Moves.fits c.args.m.now) alone child
            (child_inside m.key child c.args.frame c.args.order at is) c.requires.may.charged c.args.order c.frames_of-n.result
            (M.at c.try_charge.new.m).words c.frames_of-n.ensures.value (tried.alone alone));
      };
    }

pub returns-then-not-claim_words_at : goal.returns-then-not-claim_words_at
returns-then-not-claim_words_at g c =
    let M = g.M.Moves in
    let ticks = g.met.M.Moves.ticks in
    let m = M.at c.args.m.now in
    let charged = M.at c.try_charge.new.m in
    let l = M.at c.claim_words_at.new.m in
    let still = g.met.M.Moves.stays_alone c.claim_words_at.new.m in
    let tried = c.if-not-try_charge.ensures in
    let claimed = c.if-not-claim_words_at.ensures in
    let back = c.refund.ensures in
    let child = c.child_of-child.result in
    let b = block c.args.frame c.args.order in
    let first : ℕ = c.args.frame / 64 % 8 in
    let p = place_of_words m.key child c.args.frame c.args.order c.frames_of-n.result c.requires.wide c.requires.order
    c.child_of-child.ensures c.frames_of-n.ensures.value c.requires.may.is_block in
    record {
      keeps = keeps_both tried.keeps (keeps_both claimed.keeps back.keeps);
      counts = at_most ticks (both_counts ticks tried.counts (both_counts ticks claimed.counts (make_counts ticks back)))
          (omega (arith, p.few));
      sure = sure_both tried.sure (sure_both claimed.sure (sure_make still back));
      some = tt;
      none = record {
        view = refunded M.tick child c.frames_of-n.result m.view charged.view l.view (M.at c.refund.new.self).view tried.view
            c.requires.may.charged claimed.view back.view;
        alone = λ alone.
            let mid = tried.keeps.stays_alone alone in
            refused_at m.key charged.key l.key m.view m.is_alone child c.frames_of-n.result _ m.words charged.words l.words
            (M.at c.refund.new.self).words tried.keeps.same_key (claimed.keeps.same_key ∙ tried.keeps.same_key) p.in_memory
            (g.met.M.Moves.fits c.args.m.now) (tried.alone alone)
            (none_of_words charged.key (8 * child + first) (c.frames_of-n.result / 64) b charged.words l.words
            (omega (arith, p.begins)) p.size (claimed.alone mid))
            (back.words (still (claimed.keeps.stays_alone mid)));
      };
    }

pub returns : goal.returns
returns g c =
    let M = g.M.Moves in
    let ticks = g.met.M.Moves.ticks in
    let m = M.at c.args.m.now in
    let charged = M.at c.try_charge.new.m in
    let l = M.at c.claim_words_at.new.m in
    let still = g.met.M.Moves.stays_alone c.claim_words_at.new.m in
    let tried = c.if-not-try_charge.ensures in
    let claimed = c.if-not-claim_words_at.ensures in
    let out = c.hand_out.ensures in
    let child = c.child_of-child.result in
    let n = c.frames_of-n.result in
    let frame = c.args.frame in
    let order = c.args.order in
    let b = block frame order in
    let d = g.M.Held.HeldBlock.block_of c.hand_out.result in
    let first : ℕ = frame / 64 % 8 in
    let p = place_of_words m.key child frame order n c.requires.wide c.requires.order c.child_of-child.ensures
    c.frames_of-n.ensures.value c.requires.may.is_block in
    let covers = words_cover charged.key l.view b d (8 * child + first) (n / 64) out.is_block (omega (arith, p.begins)) p.size
    claimed.view.own in
    let apart = apart_as tried.keeps.same_key (claimed.apart refl) in
    record {
      keeps = keeps_both tried.keeps (keeps_both claimed.keeps out.keeps);
      counts = at_most ticks (both_counts ticks tried.counts (both_counts ticks claimed.counts (out_counts ticks out)))
          (omega (arith, p.few));
      sure = sure_both tried.sure (sure_both claimed.sure (sure_out still out));
      some = record {
        view = handed_out_at child frame order m.view (M.at c.hand_out.new.self).view c.child_of-child.ensures
            (handed_out_words charged.key child order first (n / 64) n m.view charged.view l.view c.requires.wide c.requires.order p.size
            p.aligned p.inside (subst (λ (x : Key). child < x.children) (sym tried.keeps.same_key) p.in_memory) tried.view claimed.view.view
            claimed.view.own M.tick (M.at c.hand_out.new.self).view c.frames_of-n.ensures.value c.requires.may.charged
            c.requires.may.own
            (subst (λ f. (M.at c.hand_out.new.self).view ≡ left_by M.tick (hand_out_block (block f order)) l.view) (sym p.begins)
            out.view));
        is_out = search rules;
        is_one = out.is_block;
        apart = flight_apart d covers apart (ap (λ (v : View). v.kept) claimed.view.view ∙ ap (λ (v : View). v.kept) tried.view);
        no_boot_frame = flight_not_boot d covers apart;
        inside = flight_inside d covers apart (subst (λ (n : ℕ). 0 < n) (sym (ap (λ (v : View). v.share) claimed.view.view
            ∙ ap (λ (v : View). v.share) tried.view)) c.requires.may.share);
        alone = λ alone.
            let mid = tried.keeps.stays_alone alone in
            wide_taken m.key charged.key m.view m.is_alone child n b d m.words charged.words l.words (M.at c.hand_out.new.self).words
            tried.keeps.same_key p.in_memory out.is_block (g.met.M.Moves.fits c.args.m.now) (tried.alone alone)
            (taken_as_block charged.key (8 * child + first) (n / 64) b charged.words l.words (omega (arith, c.requires.order))
            (omega (arith, p.begins)) (sym p.size) (claimed.alone mid))
            (out.words (still (claimed.keeps.stays_alone mid)));
      };
      none = tt;
    }
