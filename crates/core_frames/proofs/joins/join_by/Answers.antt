use Rattle.std.proofs.Common.{◌+◌, ◌/◌, ◌∷◌, ap, sym, subst, ◌∙◌, arith}
use Rattle.frame_model.specs.declared.block.FrameBlock.{FrameBlock}
use Rattle.frame_model.specs.declared.view.View.{View}
use Rattle.frame_model.specs.Block.{block}
use Rattle.low_frames.proofs.TakeLemmas.{lies_anywhere, counts_none, in_then, out_then}
use Rattle.core_frames.specs.Bounds.{most_in_join}
use Rattle.core_frames.specs.Joins.{AreBuddies}
use Rattle.low_frames.proofs.AloneLemmas.{of_recalled, to_known}
use Rattle.core_frames.specs.Splits.{AreHalves, SameWords}
use Rattle.core_frames.proofs.SplitAlone.{still_same}
use Rattle.core_frames.proofs.JoinLemmas.{both_of, elsewhere, lies_there, both_in, whole_out, can_hand_out_both, are_its_halves}
use Rattle.core_frames.proofs.JoinLemmas.{all_but, the_buddies, the_both, can_hand_out_as, in_as, out_as}
use Rattle.core_frames.proofs.joins.join_by.Goals as goal

pub hand_in-requires : goal.hand_in-requires
hand_in-requires g c =
    let m = g.M.Moves.at c.args.m.now in
    record {
      share = c.requires.idle.share;
      out = c.requires.lower_held;
      one_child = lies_anywhere m.view ((g.M.Held.HeldBlock.block_of c.args.lower).frame / 512) c.requires.idle.charged c.requires.idle.own;
    }

pub hand_in-requires-2 : goal.hand_in-requires-2
hand_in-requires-2 g c =
    let M = g.M.Moves in
    let block_of = g.M.Held.HeldBlock.block_of in
    let m = M.at c.args.m.now in
    let u = M.at c.hand_in.new.self in
    let came = c.hand_in.ensures in
    let are : AreBuddies (block_of c.args.lower) (block_of c.args.upper) =
    the_buddies (block_of c.args.lower) (block_of c.args.upper) c.frame-frame.result c.order-order.result c.frame.result c.order.result
    c.frame-frame.ensures c.order-order.ensures c.frame.ensures c.order.ensures c.if-not-are_buddies.ensures in
    record {
      share = omega (arith, ap (λ (x : View). x.share) came.view, c.requires.idle.share);
      out = came.keeps.others_out c.args.upper (elsewhere (block_of c.args.lower) (block_of c.args.upper) are) c.requires.upper_held;
      one_child = lies_there m.key (block_of c.args.lower) (block_of c.args.upper) u.view
          (g.met.M.Moves.outs_are_blocks c.args.m.now c.args.lower c.requires.lower_held) are
          (ap (λ (x : View). x.charged) came.view ∙ c.requires.idle.charged)
          (ap (λ (x : View). x.own) came.view ∙ ap (λ bs. block_of c.args.lower ∷ bs) c.requires.idle.own);
    }

pub hand_out-requires : goal.hand_out-requires
hand_out-requires g c =
    let M = g.M.Moves in
    let block_of = g.M.Held.HeldBlock.block_of in
    let m = M.at c.args.m.now in
    let u = M.at c.hand_in.new.self in
    let n = M.at c.hand_in-2.new.self in
    let low = block_of c.args.lower in
    let high = block_of c.args.upper in
    let first = c.hand_in.ensures in
    let second = c.hand_in-2.ensures in
    let are : AreBuddies low high =
    the_buddies low high c.frame-frame.result c.order-order.result c.frame.result c.order.result
    c.frame-frame.ensures c.order-order.ensures c.frame.ensures c.order.ensures c.if-not-are_buddies.ensures in
    let is_low = g.met.M.Moves.outs_are_blocks c.args.m.now c.args.lower c.requires.lower_held in
    let is_high = g.met.M.Moves.outs_are_blocks c.args.m.now c.args.upper c.requires.upper_held in
    let both =
    both_in m.key low high is_low is_high are M.tick m.view u.view n.view c.requires.idle.own first.view
    (in_as u.key m.key M.tick u.view n.view high first.keeps.same_key second.view) in
    can_hand_out_as n.key m.key n.view (block c.frame-frame.result (c.order-order.result + 1)) (both_of low)
    (second.keeps.same_key ∙ first.keeps.same_key) (the_both low c.frame-frame.result c.order-order.result c.frame-frame.ensures c.order-order.ensures)
    (can_hand_out_both m.key low high is_low is_high are n.view
    (omega (arith, ap (λ (x : View). x.share) both, c.requires.idle.share)) (ap (λ (x : View). x.own) both))

pub returns-clause-joins : goal.returns-clause-joins
returns-clause-joins g c =
    let M = g.M.Moves in
    let ticks = g.met.M.Moves.ticks in
    let block_of = g.M.Held.HeldBlock.block_of in
    let m = M.at c.args.m.now in
    let u = M.at c.hand_in.new.self in
    let n = M.at c.hand_in-2.new.self in
    let w = M.at c.hand_out.new.self in
    let low = block_of c.args.lower in
    let high = block_of c.args.upper in
    let first = c.hand_in.ensures in
    let second = c.hand_in-2.ensures in
    let out = c.hand_out.ensures in
    let are : AreBuddies low high =
    the_buddies low high c.frame-frame.result c.order-order.result c.frame.result c.order.result
    c.frame-frame.ensures c.order-order.ensures c.frame.ensures c.order.ensures c.if-not-are_buddies.ensures in
    let is_low = g.met.M.Moves.outs_are_blocks c.args.m.now c.args.lower c.requires.lower_held in
    let is_high = g.met.M.Moves.outs_are_blocks c.args.m.now c.args.upper c.requires.upper_held in
    let whole = the_both low c.frame-frame.result c.order-order.result c.frame-frame.ensures c.order-order.ensures in
    let both =
    both_in m.key low high is_low is_high are M.tick m.view u.view n.view c.requires.idle.own first.view
    (in_as u.key m.key M.tick u.view n.view high first.keeps.same_key second.view) in
    record {
      keeps = all_but first.keeps second.keeps out.keeps;
      counts = in_then M.tick M.is_exact ticks 2 most_in_join (omega arith) first
          (in_then M.tick M.is_exact ticks 1 2 (omega arith) second
          (out_then M.tick M.is_exact ticks 0 1 (omega arith) (counts_none M.tick M.is_exact ticks n) out));
      ok = record {
        are_buddies = are;
        are_halves = subst (λ (b : FrameBlock). AreHalves b low high) (sym (out.is_block ∙ whole)) (are_its_halves m.key low high is_low is_high are);
        is_out = out.is_out;
        view = whole_out m.key low high is_low is_high are M.tick m.view n.view w.view c.requires.idle.own both
            (out_as M.tick n.view w.view (block c.frame-frame.result (c.order-order.result + 1)) (both_of low) whole out.view);
        alone = λ a knows.
            of_recalled SameWords m.words m.recalled w.words (g.met.M.Moves.recalls c.args.m.now)
            (to_known SameWords m.recalled w.words w.recalled knows.0 knows.1 (g.met.M.Moves.recalls c.hand_out.new.self)
            (still_same m.recalled w.recalled
            (out.recalled (g.met.M.Moves.stays_alone c.hand_in-2.new.self (second.keeps.stays_alone (first.keeps.stays_alone a)))
            ∙ second.recalled (g.met.M.Moves.stays_alone c.hand_in.new.self (first.keeps.stays_alone a))
            ∙ first.recalled (g.met.M.Moves.stays_alone c.args.m.now a))));
      };
      err = tt;
    }
