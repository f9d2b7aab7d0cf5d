use Rattle.std.proofs.Common.{◌≡◌, ◌*◌, ◌/◌, Some, ap, ◌∙◌, arith, rules}
use Rattle.frame_model.specs.Block.{block, IsBlock}
use Rattle.frame_model.specs.Without.{without}
use Rattle.low_frames.proofs.TakeLemmas.{lies_anywhere, keeps_both, others_both}
use Rattle.low_frames.proofs.Counts.{at_most, both_counts, in_counts, make_counts}
use Rattle.low_frames.proofs.Sure.{loses_both, loses_none_in, loses_none_make}
use Rattle.low_frames.specs.Alone.{HoldsMore}
use Rattle.low_frames.proofs.AloneLemmas.{of_recalled}
use Rattle.low_frames.proofs.GiveLemmas.{charges_but, can_give_huge, huge_back, can_refund_then, small_back}
use Rattle.low_frames.proofs.GiveAlone.{small_given, huge_given}
use Rattle.low_frames.proofs.gives.give_low.Goals as goal

pub hand_in-requires : goal.hand_in-requires
hand_in-requires g c =
    let b = g.M.Held.HeldBlock.block_of c.args.held in
    record {
      share = c.requires.share;
      out = c.requires.held;
      one_child = lies_anywhere (g.M.Moves.at c.args.m.now).view (b.frame / 512) c.requires.charged c.requires.own;
    }

pub give_huge-requires : goal.give_huge-requires
give_huge-requires g c =
    let M = g.M.Moves in
    let b = g.M.Held.HeldBlock.block_of c.args.held in
    let m = M.at c.args.m.now in
    let n = M.at c.hand_in.new.self in
    let is : IsBlock m.key b = g.met.M.Moves.outs_are_blocks c.args.m.now c.args.held c.requires.held in
    record {
      share = search rules;
      may = can_give_huge M.tick m.key (Some m.key) b m.view n.view is c.requires.charged c.requires.own c.hand_in.ensures.view n.key
          c.frame-frame.result c.order-order.result c.child_of.result c.hand_in.ensures.keeps.same_key c.frame-frame.ensures
          c.order-order.ensures c.if-order-eq-HUGE_ORDER.true c.child_of.ensures (g.met.M.Moves.fills_own c.args.m.now c.requires.own)
          c.requires.paid;
    }

pub release_block-requires : goal.release_block-requires
release_block-requires g c =
    let M = g.M.Moves in
    let b = g.M.Held.HeldBlock.block_of c.args.held in
    let m = M.at c.args.m.now in
    let is : IsBlock m.key b = g.met.M.Moves.outs_are_blocks c.args.m.now c.args.held c.requires.held in
    record {
      share = search rules;
      is_block = search rules;
      order = search rules;
      own = search rules;
      charged = charges_but M.tick m.key (Some m.key) b m.view (M.at c.hand_in.new.self).view is c.requires.charged c.requires.own
          c.hand_in.ensures.view (c.frame-frame.result / 512);
      paid = search rules;
    }

pub refund-requires : goal.refund-requires
refund-requires g c =
    let M = g.M.Moves in
    let b = g.M.Held.HeldBlock.block_of c.args.held in
    let m = M.at c.args.m.now in
    let n = M.at c.hand_in.new.self in
    let l = M.at c.release_block.new.m in
    let is : IsBlock m.key b = g.met.M.Moves.outs_are_blocks c.args.m.now c.args.held c.requires.held in
    record {
      share = search rules;
      may = can_refund_then M.tick m.key (Some m.key) b m.view n.view is c.requires.charged c.requires.own c.hand_in.ensures.view
          c.frame-frame.result c.order-order.result c.child_of-else-order-eq-HUGE_ORDER.result c.frames_of.result c.frame-frame.ensures
          c.order-order.ensures c.child_of-else-order-eq-HUGE_ORDER.ensures c.frames_of.ensures.value l.view c.release_block.ensures.view
          l.key
          (c.release_block.ensures.keeps.same_key ∙ c.hand_in.ensures.keeps.same_key);
    }

pub returns-then-order-eq-HUGE_ORDER : goal.returns-then-order-eq-HUGE_ORDER
returns-then-order-eq-HUGE_ORDER g c =
    let M = g.M.Moves in
    let ticks = g.met.M.Moves.ticks in
    let still = g.met.M.Moves.stays_alone in
    let b = g.M.Held.HeldBlock.block_of c.args.held in
    let m = M.at c.args.m.now in
    let n = M.at c.hand_in.new.self in
    let taken = c.hand_in.ensures in
    let given = c.give_huge.ensures in
    let is : IsBlock m.key b = g.met.M.Moves.outs_are_blocks c.args.m.now c.args.held c.requires.held in
    record {
      keeps = others_both taken.keeps given.keeps;
      counts = at_most ticks (both_counts ticks (in_counts ticks taken) (make_counts ticks given)) (omega arith);
      back = huge_back M.tick m.key (Some m.key) b m.view n.view is c.requires.charged c.requires.own taken.view
          (M.at c.give_huge.new.self).view c.frame-frame.result c.order-order.result c.child_of.result c.frame-frame.ensures
          c.order-order.ensures c.if-order-eq-HUGE_ORDER.true c.child_of.ensures given.view;
      sure = record {
        is_sure = λ s. (given.keeps.stays_alone (taken.keeps.stays_alone s.0), given.knows);
        loses_none = λ s. loses_both (loses_none_in taken) (loses_none_make given);
      };
      knows = given.knows;
      alone_given = λ h.
          let calm = still c.hand_in.new.self (taken.keeps.stays_alone h) in
          let flight = taken.recalled (still c.args.m.now h) in
          let can = can_give_huge M.tick m.key (Some m.key) b m.view n.view is c.requires.charged c.requires.own taken.view n.key
          c.frame-frame.result c.order-order.result c.child_of.result taken.keeps.same_key c.frame-frame.ensures c.order-order.ensures
          c.if-order-eq-HUGE_ORDER.true c.child_of.ensures (g.met.M.Moves.fills_own c.args.m.now c.requires.own) c.requires.paid in
          of_recalled (λ ws us. HoldsMore m.key us ws b) m.words m.recalled (M.at c.give_huge.new.self).words
          (g.met.M.Moves.recalls c.args.m.now)
          (huge_given n.key m.key n.view n.is_alone b c.frame-frame.result c.order-order.result c.child_of.result
          (without (block (512 * c.child_of.result) 9) n.view.own) m.recalled n.recalled (M.at c.give_huge.new.self).words
          taken.keeps.same_key is c.frame-frame.ensures c.order-order.ensures c.if-order-eq-HUGE_ORDER.true c.child_of.ensures flight can
          (given.fits calm) (given.recalled calm));
    }

pub returns-else-order-eq-HUGE_ORDER : goal.returns-else-order-eq-HUGE_ORDER
returns-else-order-eq-HUGE_ORDER g c =
    let M = g.M.Moves in
    let ticks = g.met.M.Moves.ticks in
    let still = g.met.M.Moves.stays_alone in
    let b = g.M.Held.HeldBlock.block_of c.args.held in
    let m = M.at c.args.m.now in
    let n = M.at c.hand_in.new.self in
    let l = M.at c.release_block.new.m in
    let taken = c.hand_in.ensures in
    let released = c.release_block.ensures in
    let back = c.refund.ensures in
    let is : IsBlock m.key b = g.met.M.Moves.outs_are_blocks c.args.m.now c.args.held c.requires.held in
    record {
      keeps = others_both taken.keeps (keeps_both released.keeps back.keeps);
      counts = at_most ticks (both_counts ticks (in_counts ticks taken) (both_counts ticks released.counts (make_counts ticks back)))
          (omega arith);
      back = small_back M.tick m.key (Some m.key) b m.view n.view is c.requires.charged c.requires.own taken.view
          c.frame-frame.result c.order-order.result c.child_of-else-order-eq-HUGE_ORDER.result c.frames_of.result c.frame-frame.ensures
          c.order-order.ensures c.child_of-else-order-eq-HUGE_ORDER.ensures c.frames_of.ensures.value l.view released.view
          (M.at c.refund.new.self).view back.view;
      sure = record {
        is_sure = λ s. (back.keeps.stays_alone (released.keeps.stays_alone (taken.keeps.stays_alone s.0)), back.knows);
        loses_none = λ s. loses_both (loses_none_in taken) (loses_both released.loses_none (loses_none_make back));
      };
      knows = back.knows;
      alone_given = λ h.
          let alone = taken.keeps.stays_alone h in
          let same = released.keeps.same_key ∙ taken.keeps.same_key in
          let can = can_refund_then M.tick m.key (Some m.key) b m.view n.view is c.requires.charged c.requires.own taken.view
          c.frame-frame.result c.order-order.result c.child_of-else-order-eq-HUGE_ORDER.result c.frames_of.result c.frame-frame.ensures
          c.order-order.ensures c.child_of-else-order-eq-HUGE_ORDER.ensures c.frames_of.ensures.value l.view released.view l.key same in
          let whole : block c.frame-frame.result c.order-order.result ≡ b =
          ap (λ f. block f c.order-order.result) c.frame-frame.ensures ∙ ap (block b.frame) c.order-order.ensures in
          of_recalled (λ ws us. HoldsMore m.key us ws b) m.words m.recalled (M.at c.refund.new.self).words
          (g.met.M.Moves.recalls c.args.m.now)
          (small_given l.key n.key m.key l.view l.is_alone b (block c.frame-frame.result c.order-order.result)
          c.child_of-else-order-eq-HUGE_ORDER.result c.frames_of.result m.recalled n.recalled l.words (M.at c.refund.new.self).words same
          taken.keeps.same_key whole (taken.recalled (still c.args.m.now h)) can (g.met.M.Moves.fits c.release_block.new.m)
          (released.alone alone) (back.words (still c.release_block.new.m (released.keeps.stays_alone alone))));
    }
