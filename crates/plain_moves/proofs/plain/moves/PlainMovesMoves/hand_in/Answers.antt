use Rattle.std.proofs.Common.{◌+◌, Some, set, subst, ap, sym, ◌∙◌, arith, refl, rules}
use Rattle.frame_model.specs.Block.{block}
use Rattle.std.proofs.Common.{◌∷◌}
use Rattle.std.proofs.Common.{◌∷◌}
use Rattle.frame_model.specs.declared.view.View.{View}
use Rattle.frame_model.specs.View.{holder}
use Rattle.frame_model.specs.Seats.{joined_by, hand_in}
use Rattle.plain_moves.specs.Plain.{plain_tick}
use Rattle.plain_moves.proofs.PlainOwn.{few_own}
use Rattle.plain_moves.specs.Plain.{out_count, Agrees}
use Rattle.plain_moves.specs.PlainState.{key_by, view_by}
use Rattle.plain_moves.proofs.PlainOuts.{taken_in, one_in, viewed_in}
use Rattle.plain_moves.proofs.plain.moves.PlainMovesMoves.hand_in.Goals as goal

pub push_front_reserved-requires : goal.push_front_reserved-requires
push_front_reserved-requires c =
    let m = c.args.self.now in
    let key = key_by m in
    let ws = m.words.items in
    let v = view_by m in
    let b = c.args.held in
    let f = c.frame-frame.ensures in
    let o = c.order-order.ensures in
    omega (arith, few_own key ws m.outs.items v m.agrees c.requires.share, m.room, m.own.ok)

pub returns : goal.returns
returns c =
    let m = c.args.self.now in
    let key = key_by m in
    let ws = m.words.items in
    let v = view_by m in
    let b = c.args.held in
    let f = c.frame-frame.ensures in
    let o = c.order-order.ensures in
    record {
      keeps = record {
        same_tie = refl;
        same_key = refl;
        stays_alone = λ a. a;
        others_out = search rules;
      };
      missed = refl;
      view = sym (viewed_in key _ _ _ _ _ _ _ _ _ _
          (one_in m.outs.items b.frame c.requires.out.0 (omega (arith, c.requires.out.1))
          ∙ ap (λ i. out_count (set m.outs.items i 0) + 1) (sym f))
          (sym (c.push_front_reserved.ensures.items ∙ (λ i. block (f i) (o i) ∷ m.own.items))) (sym c.saturating_add-self.ensures));
      reads = refl;
      recalled = λ u. refl;
    }

pub invariant_of-self-clause-agrees : goal.invariant_of-self-clause-agrees
invariant_of-self-clause-agrees c =
    let m = c.args.self.now in
    let key = key_by m in
    let ws = m.words.items in
    let v = view_by m in
    let b = c.args.held in
    let f = c.frame-frame.ensures in
    let o = c.order-order.ensures in
    subst (λ (w : View). ∥ Agrees key m.them ws (set m.outs.items c.frame-frame.result 0) w ∥₁)
    (viewed_in key _ _ _ _ _ _ _ _ _ _
    (one_in m.outs.items b.frame c.requires.out.0 (omega (arith, c.requires.out.1))
    ∙ ap (λ i. out_count (set m.outs.items i 0) + 1) (sym f))
    (sym (c.push_front_reserved.ensures.items ∙ (λ i. block (f i) (o i) ∷ m.own.items))) (sym c.saturating_add-self.ensures))
    (subst (λ i. ∥ Agrees key m.them ws (set m.outs.items i 0) (joined_by plain_tick hand_in v (holder (Some key) b)) ∥₁)
    (sym f) (taken_in key ws m.outs.items v b m.agrees c.requires.share c.requires.one_child c.requires.out))
