use Rattle.std.proofs.Common.{◌+◌, ◌≡◌, ◌<◌, ◌∙◌, ap, sym, subst, arith}
use Rattle.frame_model.specs.declared.key.Key.{Key}
use Rattle.frame_model.specs.declared.view.View.{View}
use Rattle.frame_model.specs.Key.{tree_of, tree_count}
use Rattle.low_frames.specs.Bounds.{attempt, most_to_give_back}
use Rattle.core_frames.specs.Bounds.{most_to_refund, most_to_reserve, most_in_give}
use Rattle.core_frames.specs.Search.{HasRefunded, HasTakenOne}
use Rattle.core_frames.proofs.Carried.{none_but_none, given_paid, given_own, given_to_tree, taken_one_still, idle_taken_one}
use Rattle.core_frames.proofs.Carried.{can_refund_tree, in_a_tree, refunded_tree}
use Rattle.core_frames.proofs.KeptFrames.{upper_tree}
use Rattle.core_frames.proofs.SearchSteps.{given_low, make_brings, given_then}
use Rattle.core_frames.proofs.gives.give_by.Goals as goal

pub give_low-requires : goal.give_low-requires
give_low-requires g c =
    let m = g.M.Moves.at c.args.m.now in
    record {
      share = c.requires.idle.share;
      held = c.requires.held;
      charged = c.requires.idle.charged;
      own = c.requires.idle.own;
      paid = none_but_none (tree_of (g.M.Held.HeldBlock.block_of c.args.held).frame) m.view.paid c.requires.idle.paid;
    }

pub try_refund_own-requires : goal.try_refund_own-requires
try_refund_own-requires g c =
    let M = g.M.Moves in
    let m = M.at c.args.m.now in
    let b = g.M.Held.HeldBlock.block_of c.args.held in
    let inside : tree_of b.frame < tree_count m.key =
    in_a_tree m.key b (g.met.M.Moves.outs_are_blocks c.args.m.now c.args.held c.requires.held) in
    let tree : c.tree_of-tree.result ≡ tree_of b.frame = c.tree_of-tree.ensures ∙ ap tree_of c.frame.ensures in
    record {
      core = subst (λ (i : Key). c.args.habit.now.core < i.cores) (sym c.give_low.ensures.keeps.same_key) c.requires.core;
      tree = subst (λ (i : Key). c.tree_of-tree.result < tree_count i) (sym c.give_low.ensures.keeps.same_key)
          (subst (λ t. t < tree_count m.key) (sym tree) inside);
      share = omega (arith, c.requires.idle.share, ap (λ (x : View). x.share) c.give_low.ensures.back);
      paid = given_paid m.view (M.at c.give_low.new.m).view b c.frame.result c.order.result c.tree_of-tree.result c.frames_of-n.result
          c.requires.idle c.give_low.ensures.back c.frame.ensures c.order.ensures c.tree_of-tree.ensures c.frames_of-n.ensures.value;
    }

pub returns-then-try_refund_own-clause-gives : goal.returns-then-try_refund_own-clause-gives
returns-then-try_refund_own-clause-gives g c =
    let M = g.M.Moves in
    let m = M.at c.args.m.now in
    let b = g.M.Held.HeldBlock.block_of c.args.held in
    given_then g.met.M.Moves.ticks HasTakenOne most_to_give_back attempt most_in_give (omega arith)
    (g.met.M.Moves.outs_are_blocks c.args.m.now c.args.held c.requires.held) (given_low c.give_low.ensures) c.if-try_refund_own.ensures
    (given_own m.view (M.at c.give_low.new.m).view b c.frame.result c.order.result c.tree_of-tree.result c.frames_of-n.result
    c.requires.idle c.give_low.ensures.back c.frame.ensures c.order.ensures c.tree_of-tree.ensures c.frames_of-n.ensures.value
    (M.at c.try_refund_own.new.m).view c.if-try_refund_own.ensures.view)

pub tree_refund-requires : goal.tree_refund-requires
tree_refund-requires g c =
    let M = g.M.Moves in
    let m = M.at c.args.m.now in
    let u = M.at c.give_low.new.m in
    let w = M.at c.try_refund_own.new.m in
    let b = g.M.Held.HeldBlock.block_of c.args.held in
    let inside : tree_of b.frame < tree_count m.key =
    in_a_tree m.key b (g.met.M.Moves.outs_are_blocks c.args.m.now c.args.held c.requires.held) in
    let tree : c.tree_of-tree.result ≡ tree_of b.frame = c.tree_of-tree.ensures ∙ ap tree_of c.frame.ensures in
    record {
      share = omega (
        arith,
        c.requires.idle.share,
        ap (λ (x : View). x.share) c.give_low.ensures.back,
        ap (λ (x : View). x.share) c.if-try_refund_own.ensures.view,
      );
      may = can_refund_tree w.key m.key u.view w.view c.tree_of-tree.result c.frames_of-n.result
          (c.try_refund_own.ensures.keeps.same_key ∙ c.give_low.ensures.keeps.same_key)
          (subst (λ t. t < tree_count m.key) (sym tree) inside)
          (given_paid m.view u.view b c.frame.result c.order.result c.tree_of-tree.result c.frames_of-n.result c.requires.idle
          c.give_low.ensures.back c.frame.ensures c.order.ensures c.tree_of-tree.ensures c.frames_of-n.ensures.value)
          c.if-try_refund_own.ensures.view;
    }

pub reserve_own-requires : goal.reserve_own-requires
reserve_own-requires g c =
    let M = g.M.Moves in
    let m = M.at c.args.m.now in
    let u = M.at c.give_low.new.m in
    let w = M.at c.try_refund_own.new.m in
    let x = M.at c.tree_refund.new.self in
    let b = g.M.Held.HeldBlock.block_of c.args.held in
    let k : x.key ≡ m.key =
    c.tree_refund.ensures.keeps.same_key ∙ c.if-try_refund_own.ensures.keeps.same_key
    ∙ c.give_low.ensures.keeps.same_key in
    let inside : tree_of b.frame < tree_count m.key =
    in_a_tree m.key b (g.met.M.Moves.outs_are_blocks c.args.m.now c.args.held c.requires.held) in
    let tree : c.tree_of-tree.result ≡ tree_of b.frame = c.tree_of-tree.ensures ∙ ap tree_of c.frame.ensures in
    record {
      core = subst (λ (i : Key). c.counts.new.self.core < i.cores) (sym k)
          (subst (λ n. n < m.key.cores) (sym c.counts.ensures.core) c.requires.core);
      tree = subst (λ (i : Key). c.tree_of-tree.result < tree_count i) (sym k) (subst (λ t. t < tree_count m.key) (sym tree) inside);
      idle = idle_taken_one m.view x.view c.requires.idle
          (given_to_tree m.view u.view b c.frame.result c.order.result c.tree_of-tree.result c.frames_of-n.result c.requires.idle
          c.give_low.ensures.back c.frame.ensures c.order.ensures c.tree_of-tree.ensures c.frames_of-n.ensures.value M.tick w.view x.view
          c.if-try_refund_own.ensures.view c.tree_refund.ensures.view);
    }

pub returns-else-counts-clause-gives : goal.returns-else-counts-clause-gives
returns-else-counts-clause-gives g c =
    let M = g.M.Moves in
    let ticks = g.met.M.Moves.ticks in
    let m = M.at c.args.m.now in
    let u = M.at c.give_low.new.m in
    let w = M.at c.try_refund_own.new.m in
    let x = M.at c.tree_refund.new.self in
    let b = g.M.Held.HeldBlock.block_of c.args.held in
    let is = g.met.M.Moves.outs_are_blocks c.args.m.now c.args.held c.requires.held in
    let tree : c.tree_of-tree.result ≡ tree_of b.frame = c.tree_of-tree.ensures ∙ ap tree_of c.frame.ensures in
    let inside : c.tree_of-tree.result < tree_count m.key = subst (λ t. t < tree_count m.key) (sym tree) (in_a_tree m.key b is) in
    let paid = given_paid m.view u.view b c.frame.result c.order.result c.tree_of-tree.result c.frames_of-n.result c.requires.idle
    c.give_low.ensures.back c.frame.ensures c.order.ensures c.tree_of-tree.ensures c.frames_of-n.ensures.value in
    let rest = make_brings ticks HasRefunded attempt most_to_refund (omega arith) (g.met.M.Moves.stays_alone c.try_refund_own.new.m)
    (upper_tree u.key c.tree_of-tree.result
    (subst (λ (i : Key). c.tree_of-tree.result < tree_count i) (sym c.give_low.ensures.keeps.same_key) inside))
    c.if-try_refund_own.ensures c.tree_refund.ensures
    (refunded_tree M.tick u.view w.view x.view c.if-try_refund_own.ensures.view c.tree_of-tree.result c.frames_of-n.result paid
    c.tree_refund.ensures.view) in
    given_then ticks HasTakenOne most_to_give_back most_to_refund most_in_give (omega arith) is (given_low c.give_low.ensures) rest
    (given_own m.view u.view b c.frame.result c.order.result c.tree_of-tree.result c.frames_of-n.result c.requires.idle
    c.give_low.ensures.back c.frame.ensures c.order.ensures c.tree_of-tree.ensures c.frames_of-n.ensures.value x.view rest.view)

pub returns-then-counts-clause-gives : goal.returns-then-counts-clause-gives
returns-then-counts-clause-gives g c =
    let M = g.M.Moves in
    let ticks = g.met.M.Moves.ticks in
    let m = M.at c.args.m.now in
    let u = M.at c.give_low.new.m in
    let w = M.at c.try_refund_own.new.m in
    let x = M.at c.tree_refund.new.self in
    let y = M.at c.reserve_own.new.m in
    let b = g.M.Held.HeldBlock.block_of c.args.held in
    let is = g.met.M.Moves.outs_are_blocks c.args.m.now c.args.held c.requires.held in
    let tree : c.tree_of-tree.result ≡ tree_of b.frame = c.tree_of-tree.ensures ∙ ap tree_of c.frame.ensures in
    let inside : c.tree_of-tree.result < tree_count m.key = subst (λ t. t < tree_count m.key) (sym tree) (in_a_tree m.key b is) in
    let paid = given_paid m.view u.view b c.frame.result c.order.result c.tree_of-tree.result c.frames_of-n.result c.requires.idle
    c.give_low.ensures.back c.frame.ensures c.order.ensures c.tree_of-tree.ensures c.frames_of-n.ensures.value in
    let rest = make_brings ticks HasRefunded attempt most_to_refund (omega arith) (g.met.M.Moves.stays_alone c.try_refund_own.new.m)
    (upper_tree u.key c.tree_of-tree.result
    (subst (λ (i : Key). c.tree_of-tree.result < tree_count i) (sym c.give_low.ensures.keeps.same_key) inside))
    c.if-try_refund_own.ensures c.tree_refund.ensures
    (refunded_tree M.tick u.view w.view x.view c.if-try_refund_own.ensures.view c.tree_of-tree.result c.frames_of-n.result paid
    c.tree_refund.ensures.view) in
    let back = given_own m.view u.view b c.frame.result c.order.result c.tree_of-tree.result c.frames_of-n.result c.requires.idle
    c.give_low.ensures.back c.frame.ensures c.order.ensures c.tree_of-tree.ensures c.frames_of-n.ensures.value x.view rest.view in
    given_then ticks HasTakenOne (most_to_give_back + most_to_refund) most_to_reserve most_in_give (omega arith) is
    (given_then ticks HasTakenOne most_to_give_back most_to_refund (most_to_give_back + most_to_refund) (omega arith) is (given_low c.give_low.ensures) rest back) c.reserve_own.ensures
    (taken_one_still m.view x.view y.view back c.reserve_own.ensures.view)
