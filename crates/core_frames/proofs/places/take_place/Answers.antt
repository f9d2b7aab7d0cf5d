use Rattle.std.proofs.Common.{◌≡◌, ◌+◌, ap, sym, subst, ◌∙◌, arith}
use Rattle.frame_model.specs.declared.block.FrameBlock.{FrameBlock}
use Rattle.frame_model.specs.declared.key.Key.{Key}
use Rattle.frame_model.specs.declared.view.View.{View}
use Rattle.frame_model.specs.Block.{block, IsBlock}
use Rattle.frame_model.specs.View.{counted, paid_on}
use Rattle.low_frames.specs.Bounds.{most_at_place}
use Rattle.low_frames.specs.Takes.{IsAsBefore, HasHandedOut}
use Rattle.low_frames.proofs.RoomLemmas.{FitsAlone}
use Rattle.low_frames.proofs.Sure.{sure_both}
use Rattle.low_frames.proofs.TakeLemmas.{keeps_both, then_counts}
use Rattle.core_frames.specs.Bounds.{most_to_refund, most_to_pay_at, most_to_take_at}
use Rattle.core_frames.specs.Search.{HasPaid, HasLentOne}
use Rattle.core_frames.proofs.Carried.{carried_on, idle_still, in_a_tree, lent_own, paid_there, refunded_idle}
use Rattle.core_frames.proofs.PlaceLemmas.{is_block_of, held_for_few, held_there, out_at}
use Rattle.core_frames.proofs.SearchSteps.{brings_both, brings_within, none_brings, may_refund, made_none, made_both, made_within}
use Rattle.core_frames.proofs.places.take_place.Goals as goal

pub pay_at-requires : goal.pay_at-requires
pay_at-requires g c =
    let m = g.M.Moves.at c.args.m.now in
    let b : FrameBlock = block c.args.frame c.args.order in
    let is = is_block_of m.key b (g.met.M.Moves.sizes c.args.m.now) c.requires.has in
    record { core = c.requires.core; tree = omega (arith, c.tree_of-tree.ensures, in_a_tree m.key b is); idle = c.requires.idle }

pub take_at-requires : goal.take_at-requires
take_at-requires g c =
    let m = g.M.Moves.at c.args.m.now in
    let u = g.M.Moves.at c.pay_at.new.m in
    let b : FrameBlock = block c.args.frame c.args.order in
    let paid = c.if-not-pay_at.ensures.brings in
    let n = c.frames_of-n.result in
    record {
      is_block = subst (λ (k : Key). IsBlock k b) (sym paid.keeps.same_key)
          (is_block_of m.key b (g.met.M.Moves.sizes c.args.m.now) c.requires.has);
      share = omega (arith, ap (λ (x : View). x.share) paid.view, c.requires.idle.share);
      charged = ap (λ x. x.charged) paid.view ∙ c.requires.idle.charged;
      own = ap (λ x. x.own) paid.view ∙ c.requires.idle.own;
      paid = omega (
        arith,
        c.frames_of-n.ensures.value,
        subst (λ t. paid_on t u.view ≡ n) c.tree_of-tree.ensures (paid_there c.tree_of-tree.result n u.view (ap (λ x. x.paid) paid.view)),
      );
    }

pub refund-requires : goal.refund-requires
refund-requires g c =
    let m = g.M.Moves.at c.args.m.now in
    let u = g.M.Moves.at c.pay_at.new.m in
    let w = g.M.Moves.at c.take_at.new.m in
    let b : FrameBlock = block c.args.frame c.args.order in
    let is = is_block_of m.key b (g.met.M.Moves.sizes c.args.m.now) c.requires.has in
    let tree = c.tree_of-tree.result in
    let n = c.frames_of-n.result in
    let paid = c.if-not-pay_at.ensures.brings in
    let missed = c.in_default.ensures in
    may_refund m w tree n m.view.reserving m.view.lent (missed.keeps.same_key ∙ paid.keeps.same_key)
    (omega (arith, c.tree_of-tree.ensures, in_a_tree m.key b is)) c.requires.idle
    (carried_on m.view u.view w.view (counted tree n) m.view.reserving m.view.lent paid.view missed.none.view)
    c.args.core c.requires.core

pub returns-then-not-pay_at : goal.returns-then-not-pay_at
returns-then-not-pay_at g c =
    let M = g.M.Moves in
    let ticks = g.met.M.Moves.ticks in
    let m = M.at c.args.m.now in
    let u = M.at c.pay_at.new.m in
    let b : FrameBlock = block c.args.frame c.args.order in
    let is = is_block_of m.key b (g.met.M.Moves.sizes c.args.m.now) c.requires.has in
    let paid = c.if-not-pay_at.ensures.brings in
    let all = brings_within ticks (most_to_pay_at m.key) (most_to_take_at m.key) (omega arith) paid in
    record {
      keeps = all.keeps;
      counts = all.counts;
      sure = all.sure;
      some = tt;
      none = record {
        view = paid.view;
        made = made_within ticks m u 1 (most_to_pay_at m.key) (most_to_take_at m.key) (omega arith) c.pay_at.ensures.made;
        alone = λ alone.
            held_for_few u.is_alone m.key u.view b c.tree_of-tree.result c.frames_of-n.result m.words u.words
            (λ ws e. subst (λ i. FitsAlone u.is_alone i ws u.view) paid.keeps.same_key (g.met.M.Moves.fits c.pay_at.new.m ws e))
            (paid.keeps.stays_alone alone) (idle_still m.view u.view c.requires.idle paid.view) is c.tree_of-tree.ensures
            c.frames_of-n.ensures.value (c.pay_at.ensures.few c.if-not-pay_at.true alone);
      };
    }

pub returns-in_default : goal.returns-in_default
returns-in_default g c =
    let M = g.M.Moves in
    let ticks = g.met.M.Moves.ticks in
    let m = M.at c.args.m.now in
    let u = M.at c.pay_at.new.m in
    let w = M.at c.take_at.new.m in
    let x = M.at c.refund.new.m in
    let b : FrameBlock = block c.args.frame c.args.order in
    let is = is_block_of m.key b (g.met.M.Moves.sizes c.args.m.now) c.requires.has in
    let tree = c.tree_of-tree.result in
    let n = c.frames_of-n.result in
    let most = most_to_pay_at m.key in
    let paid = c.if-not-pay_at.ensures.brings in
    let missed = c.in_default.ensures in
    let still = brings_both ticks (HasPaid tree n) most most_at_place (most + most_at_place) (omega arith) paid
    (none_brings ticks most_at_place missed.keeps missed.counts missed.sure missed.none)
    (carried_on m.view u.view w.view (counted tree n) m.view.reserving m.view.lent paid.view missed.none.view) in
    let all = brings_both ticks IsAsBefore (most + most_at_place) most_to_refund (most_to_take_at m.key) (omega arith) still c.refund.ensures
    (refunded_idle m.view w.view x.view tree n c.requires.idle still.view c.refund.ensures.view) in
    record {
      keeps = all.keeps;
      counts = all.counts;
      sure = all.sure;
      some = tt;
      none = record {
        view = all.view;
        made = made_both ticks m u x 1 0 1 most most (most_at_place + most_to_refund) (most_to_take_at m.key) (omega arith) (omega arith)
            (omega arith) paid.counts c.pay_at.ensures.made
            (made_none ticks (most_at_place + most_to_refund)
            (then_counts M.tick M.is_exact ticks most_at_place most_to_refund (most_at_place + most_to_refund) (omega arith) missed.counts
            c.refund.ensures.counts));
        alone = λ alone.
            let mid = paid.keeps.stays_alone alone in
            held_there m.key u.key w.key b m.words u.words w.words x.words paid.keeps.same_key
            (missed.keeps.same_key ∙ paid.keeps.same_key) is (paid.alone alone) (missed.none.alone mid)
            (c.refund.ensures.alone (missed.keeps.stays_alone mid));
      };
    }

pub returns : goal.returns
returns g c =
    let M = g.M.Moves in
    let m = M.at c.args.m.now in
    let u = M.at c.pay_at.new.m in
    let w = M.at c.take_at.new.m in
    let b : FrameBlock = block c.args.frame c.args.order in
    let tree = c.tree_of-tree.result in
    let n = c.frames_of-n.result in
    let paid = c.if-not-pay_at.ensures.brings in
    let took = c.in-Some.ensures in
    record {
      keeps = keeps_both paid.keeps took.keeps;
      counts = then_counts M.tick M.is_exact g.met.M.Moves.ticks (most_to_pay_at m.key) most_at_place (most_to_take_at m.key) (omega arith)
          paid.counts took.counts;
      sure = sure_both paid.sure took.sure;
      some = out_at HasLentOne b paid.keeps (ap (λ v. v.kept) paid.view) paid.alone
          (subst (λ (k : Key). IsBlock k b) (sym paid.keeps.same_key)
          (is_block_of m.key b (g.met.M.Moves.sizes c.args.m.now) c.requires.has))
          (lent_own m.view u.view w.view tree c.args.order n c.requires.idle c.frames_of-n.ensures.value paid.view
          (subst (λ t. HasHandedOut t c.args.order u.view w.view) (sym c.tree_of-tree.ensures) took.some.view))
          took.some;
      none = tt;
    }
