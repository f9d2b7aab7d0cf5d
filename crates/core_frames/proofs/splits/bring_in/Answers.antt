use Rattle.std.proofs.Common.{◌≡◌, ◌+◌, ◌-◌, ◌*◌, ◌/◌, [], ◌∷◌, ap, sym, subst, ◌∙◌, arith}
use Rattle.std.specs.Prelude.{pos, ◌-ℤ◌}
use Rattle.frame_model.specs.Block.{block}
use Rattle.frame_model.specs.declared.view.View.{View}
use Rattle.low_frames.proofs.TakeLemmas.{lies_anywhere, in_then, counts_none, others_both}
use Rattle.core_frames.specs.Bounds.{most_to_break_up, most_to_bring_in}
use Rattle.core_frames.specs.Splits.{MakeTwo}
use Rattle.core_frames.proofs.SplitLemmas.{own_borne, brought_in, broken_up, two_small, two_huge, as_child, child_inside}
use Rattle.core_frames.proofs.SplitAlone.{none_lost, then_lost}
use Rattle.core_frames.proofs.splits.bring_in.Goals as goal

pub hand_in-requires : goal.hand_in-requires
hand_in-requires g c =
    let m = g.M.Moves.at c.args.m.now in
    record {
      share = c.requires.idle.share;
      out = c.requires.held;
      one_child = lies_anywhere m.view ((g.M.Held.HeldBlock.block_of c.args.held).frame / 512) c.requires.idle.charged c.requires.idle.own;
    }

pub returns-then-order-lt-HUGE_ORDER : goal.returns-then-order-lt-HUGE_ORDER
returns-then-order-lt-HUGE_ORDER g c =
    let M = g.M.Moves in
    let ticks = g.met.M.Moves.ticks in
    let b = g.M.Held.HeldBlock.block_of c.args.held in
    let m = M.at c.args.m.now in
    let u = M.at c.hand_in.new.self in
    let came = brought_in M.tick m.key b m.view u.view c.requires.idle.own c.hand_in.ensures.view in
    record {
      keeps = c.hand_in.ensures.keeps;
      counts = in_then M.tick M.is_exact ticks 0 most_to_bring_in (omega arith) c.hand_in.ensures (counts_none M.tick M.is_exact ticks u);
      view = own_borne m.view u.view (b ∷ []) m.view.filled (m.view.lent -ℤ pos 1) came;
      two = subst (MakeTwo m.key b.frame (b.order - 1)) (sym (ap (λ (x : View). x.own) came))
          (two_small m.key b.frame b.order c.requires.some (omega (arith, c.order-order.ensures, c.if-order-lt-HUGE_ORDER.true))
          (g.met.M.Moves.outs_are_blocks c.args.m.now c.args.held c.requires.held));
      alone = λ a.
          none_lost m.key b m.recalled u.recalled (omega (arith, c.order-order.ensures, c.if-order-lt-HUGE_ORDER.true))
          (c.hand_in.ensures.recalled (g.met.M.Moves.stays_alone c.args.m.now a));
    }

pub returns : goal.returns
returns g c =
    let M = g.M.Moves in
    let ticks = g.met.M.Moves.ticks in
    let b = g.M.Held.HeldBlock.block_of c.args.held in
    let m = M.at c.args.m.now in
    let u = M.at c.hand_in.new.self in
    let w = M.at c.break_up.new.m in
    let is = g.met.M.Moves.outs_are_blocks c.args.m.now c.args.held c.requires.held in
    let at : c.child_of.result ≡ b.frame / 512 = c.child_of.ensures ∙ ap (λ n. n / 512) c.frame-frame.ensures in
    let came = brought_in M.tick m.key b m.view u.view c.requires.idle.own c.hand_in.ensures.view in
    let now = c.break_up.ensures in
    record {
      keeps = others_both c.hand_in.ensures.keeps now.keeps;
      counts = in_then M.tick M.is_exact ticks most_to_break_up most_to_bring_in (omega arith) c.hand_in.ensures now.counts;
      view = broken_up m.view u.view w.view b w.view.own (g.met.M.Moves.fills_own c.args.m.now c.requires.idle.own) came
          (own_borne u.view w.view (block (512 * c.child_of.result) 8 ∷ block (512 * c.child_of.result + 256) 8 ∷ [])
          [] u.view.lent now.view);
      two = two_huge m.key b c.child_of.result w.view.own is (omega (arith, c.order-order.ensures, c.if-order-lt-HUGE_ORDER.false))
          at (omega (arith, at, child_inside m.key b is)) (ap (λ (x : View). x.own) now.view);
      alone = λ a.
          then_lost m.key u.key b c.child_of.result m.recalled u.recalled w.recalled c.hand_in.ensures.keeps.same_key
          (c.hand_in.ensures.recalled (g.met.M.Moves.stays_alone c.args.m.now a))
          (as_child m.key b is (omega (arith, c.order-order.ensures, c.if-order-lt-HUGE_ORDER.false))
          ∙ ap (λ n. block (512 * n) 9) (sym at))
          (now.alone (c.hand_in.ensures.keeps.stays_alone a));
    }
