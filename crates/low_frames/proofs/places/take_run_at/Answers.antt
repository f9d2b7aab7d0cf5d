use Rattle.std.proofs.Common.{◌≡◌, ◌<◌, ◌≤◌, ◌/◌, ◌^◌, ◌∙◌, ◌∷◌, ℕ, refl, ap, sym, subst, arith, rules}
use Rattle.frame_model.specs.declared.key.Key.{Key}
use Rattle.frame_model.specs.declared.view.View.{View}
use Rattle.frame_model.specs.Block.{block, IsBlock}
use Rattle.frame_model.specs.View.{charged_in}
use Rattle.low_frames.proofs.TakeLemmas.{keeps_both, apart_as}
use Rattle.low_frames.proofs.Counts.{at_most, both_counts, out_counts, make_counts}
use Rattle.low_frames.proofs.Sure.{sure_both, sure_out, sure_make}
use Rattle.low_frames.proofs.ViewLemmas.{charged_of, can_hand_out_claimed, can_refund, refunded, handed_out}
use Rattle.low_frames.proofs.ViewLemmas.{own_covers, flight_apart, flight_not_boot, flight_inside}
use Rattle.low_frames.proofs.AloneTakes.{few_none, small_taken_known}
use Rattle.low_frames.proofs.PlaceLemmas.{lies_in_child, child_inside, run_of_block, claimed_at, paid_at, handed_out_at, none_at, none_of_run}
use Rattle.low_frames.proofs.PlaceLemmas.{refused_at}
use Rattle.low_frames.proofs.places.take_run_at.Goals as goal

pub try_claim_at-requires : goal.try_claim_at-requires
try_claim_at-requires g c =
    let M = g.M.Moves in
    let m = M.at c.args.m.now in
    let charged = M.at c.try_charge.new.m in
    let tried = c.if-not-try_charge.ensures in
    let here = charged_of c.child_of-child.result c.frames_of-n.result m.view charged.view tried.view c.requires.may.charged in
    let word : c.child_of-child.result ≡ c.args.frame / 64 / 8 = omega (arith, c.child_of-child.ensures) in
    record {
      is_run = run_of_block charged.key c.args.frame c.args.order c.requires.small
          (subst (λ (k : Key). IsBlock k (block c.args.frame c.args.order)) (sym tried.keeps.same_key) c.requires.may.is_block);
      share = search rules;
      charged = subst (λ k. 2 ^ c.args.order ≤ charged_in k charged.view) word
          (omega (arith, here, c.frames_of-n.ensures.value));
      paid = paid_at c.child_of-child.result c.frames_of-n.result (2 ^ c.args.order) (c.args.frame / 4096) (c.args.frame / 64 / 64)
          m.view charged.view tried.view (omega arith) c.requires.may.paid;
    }

pub hand_out-requires : goal.hand_out-requires
hand_out-requires g c =
    let M = g.M.Moves in
    let tried = c.if-not-try_charge.ensures in
    let claimed = c.if-not-try_claim_at.ensures in
    let charged = M.at c.try_charge.new.m in
    let l = M.at c.try_claim_at.new.m in
    let is = subst (λ (k : Key). IsBlock k (block c.args.frame c.args.order)) (sym tried.keeps.same_key) c.requires.may.is_block in
    can_hand_out_claimed l.key charged.key c.child_of-child.result c.args.frame c.args.order c.frames_of-n.result
    (M.at c.args.m.now).view charged.view l.view claimed.keeps.same_key (omega (arith, c.requires.small)) c.requires.may.share tried.view
    c.requires.may.own (claimed_at c.child_of-child.result c.args.frame c.args.order charged.view l.view c.child_of-child.ensures
    claimed.view) is

pub refund-requires : goal.refund-requires
refund-requires g c =
    let M = g.M.Moves in
    let m = M.at c.args.m.now in
    let tried = c.if-not-try_charge.ensures in
    let claimed = c.if-not-try_claim_at.ensures in
    record {
      share = search rules;
      may = can_refund (M.at c.try_claim_at.new.m).key m.key c.child_of-child.result c.frames_of-n.result m.view
          (M.at c.try_charge.new.m).view (M.at c.try_claim_at.new.m).view (claimed.keeps.same_key ∙ tried.keeps.same_key)
          (child_inside m.key c.child_of-child.result c.args.frame c.args.order c.child_of-child.ensures c.requires.may.is_block)
          tried.view c.requires.may.charged claimed.view;
    }

pub returns-then-not-try_charge : goal.returns-then-not-try_charge
returns-then-not-try_charge g c =
    let M = g.M.Moves in
    let m = M.at c.args.m.now in
    let tried = c.if-not-try_charge.ensures in
    let child = c.child_of-child.result in
    let at = c.child_of-child.ensures in
    let is = c.requires.may.is_block in
    record {
      keeps = tried.keeps;
      counts = at_most g.met.M.Moves.ticks tried.counts (omega arith);
      sure = tried.sure;
      some = tt;
      none = record {
        view = tried.view;
        alone = λ alone.
            none_at m.key child c.args.order (block c.args.frame c.args.order) m.words (M.at c.try_charge.new.m).words
            (lies_in_child m.key child c.args.frame c.args.order at is)
            (few_none m.is_alone m.key m.words m.view (g.met.M.Moves.fits c.args.m.now) alone child
            (child_inside m.key child c.args.frame c.args.order at is) c.requires.may.charged c.args.order c.frames_of-n.result
            (M.at c.try_charge.new.m).words c.frames_of-n.ensures.value (tried.alone alone));
      };
    }

pub returns-then-not-try_claim_at : goal.returns-then-not-try_claim_at
returns-then-not-try_claim_at g c =
    let M = g.M.Moves in
    let ticks = g.met.M.Moves.ticks in
    let m = M.at c.args.m.now in
    let charged = M.at c.try_charge.new.m in
    let l = M.at c.try_claim_at.new.m in
    let still = g.met.M.Moves.stays_alone c.try_claim_at.new.m in
    let tried = c.if-not-try_charge.ensures in
    let claimed = c.if-not-try_claim_at.ensures in
    let back = c.refund.ensures in
    let child = c.child_of-child.result in
    let b = block c.args.frame c.args.order in
    let is : IsBlock charged.key b = subst (λ (k : Key). IsBlock k b) (sym tried.keeps.same_key) c.requires.may.is_block in
    record {
      keeps = keeps_both tried.keeps (keeps_both claimed.keeps back.keeps);
      counts = at_most ticks (both_counts ticks tried.counts (both_counts ticks claimed.counts (make_counts ticks back))) (omega arith);
      sure = sure_both tried.sure (sure_both claimed.sure (sure_make still back));
      some = tt;
      none = record {
        view = refunded M.tick child c.frames_of-n.result m.view charged.view l.view (M.at c.refund.new.self).view tried.view
            c.requires.may.charged claimed.view back.view;
        alone = λ alone.
            let mid = tried.keeps.stays_alone alone in
            refused_at m.key charged.key l.key m.view m.is_alone child c.frames_of-n.result _ m.words charged.words l.words
            (M.at c.refund.new.self).words tried.keeps.same_key (claimed.keeps.same_key ∙ tried.keeps.same_key)
            (child_inside m.key child c.args.frame c.args.order c.child_of-child.ensures c.requires.may.is_block)
            (g.met.M.Moves.fits c.args.m.now) (tried.alone alone)
            (none_of_run charged.key c.args.frame c.args.order charged.words l.words c.requires.small is (claimed.alone mid))
            (back.words (still (claimed.keeps.stays_alone mid)));
      };
    }

pub returns : goal.returns
returns g c =
    let M = g.M.Moves in
    let ticks = g.met.M.Moves.ticks in
    let m = M.at c.args.m.now in
    let charged = M.at c.try_charge.new.m in
    let l = M.at c.try_claim_at.new.m in
    let still = g.met.M.Moves.stays_alone c.try_claim_at.new.m in
    let tried = c.if-not-try_charge.ensures in
    let claimed = c.if-not-try_claim_at.ensures in
    let out = c.hand_out.ensures in
    let child = c.child_of-child.result in
    let at = c.child_of-child.ensures in
    let b = block c.args.frame c.args.order in
    let d = g.M.Held.HeldBlock.block_of c.hand_out.result in
    let is : IsBlock charged.key b = subst (λ (k : Key). IsBlock k b) (sym tried.keeps.same_key) c.requires.may.is_block in
    let run = claimed_at child c.args.frame c.args.order charged.view l.view at claimed.view in
    let covers = own_covers m.view l.view b d out.is_block
    (ap (λ (v : View). v.own) run ∙ ap (λ (v : View). b ∷ v.own) tried.view) in
    let apart = apart_as tried.keeps.same_key (claimed.apart refl) in
    record {
      keeps = keeps_both tried.keeps (keeps_both claimed.keeps out.keeps);
      counts = at_most ticks (both_counts ticks tried.counts (both_counts ticks claimed.counts (out_counts ticks out))) (omega arith);
      sure = sure_both tried.sure (sure_both claimed.sure (sure_out still out));
      some = record {
        view = handed_out_at child c.args.frame c.args.order m.view (M.at c.hand_out.new.self).view at
            (handed_out M.tick charged.key child c.args.frame c.args.order c.frames_of-n.result m.view charged.view l.view
            (M.at c.hand_out.new.self).view c.frames_of-n.ensures.value tried.view c.requires.may.charged c.requires.may.own run is
            out.view);
        is_out = search rules;
        is_one = out.is_block;
        apart = flight_apart d covers apart (ap (λ (v : View). v.kept) run ∙ ap (λ (v : View). v.kept) tried.view);
        no_boot_frame = flight_not_boot d covers apart;
        inside = flight_inside d covers apart (subst (λ (n : ℕ). 0 < n) (sym (ap (λ (v : View). v.share) run
            ∙ ap (λ (v : View). v.share) tried.view)) c.requires.may.share);
        alone = λ alone.
            let mid = tried.keeps.stays_alone alone in
            small_taken_known m.is_alone m.key m.words m.view (g.met.M.Moves.fits c.args.m.now) alone child
            (child_inside m.key child c.args.frame c.args.order at c.requires.may.is_block) c.requires.may.charged c.frames_of-n.result
            c.args.frame c.args.order d charged.words l.words (M.at c.hand_out.new.self).words charged.key c.requires.small
            tried.keeps.same_key (lies_in_child charged.key child c.args.frame c.args.order at is) out.is_block (tried.alone alone)
            (claimed.alone mid) (out.words (still (claimed.keeps.stays_alone mid)));
      };
      none = tt;
    }
