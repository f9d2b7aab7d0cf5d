use Rattle.std.proofs.Common.{◌≡◌, ℕ, subst, sym, ap, ◌∙◌, arith}
use Rattle.frame_model.specs.Block.{block, IsBlock, wholes}
use Rattle.frame_model.specs.Steps.Amounts.{Leaves}
use Rattle.frame_model.specs.Without.{without}
use Rattle.plain_moves.specs.PlainState.{key_by, words_by, view_by}
use Rattle.plain_moves.proofs.Checks.{covered, shifted, leaves_known, leaves_not, huge_not}
use Rattle.plain_moves.proofs.plain.PlainMoves.has_block.Goals as goal

pub returns-clause-yes : goal.returns-clause-yes
returns-clause-yes c =
    let m = c.args.self.now in
    let b = block c.args.frame c.args.order in
    λ yes. leaves_known (key_by m) (words_by m) m.outs.items (view_by m) b m.agrees c.requires (record {
      smalls = λ low x on. c.has_frames.ensures.yes yes x (covered b x on).0
          (omega (arith, (covered b x on).1, shifted c.args.order c.requires.order));
      wholes = λ nine. absurd (c.if-order-eq-HUGE_ORDER.false nine);
    })

pub returns-clause-no : goal.returns-clause-no
returns-clause-no c =
    let m = c.args.self.now in
    let b = block c.args.frame c.args.order in
    λ no l. let other = c.has_frames.ensures.no no in
    leaves_not (key_by m) (words_by m) m.outs.items (view_by m) b _ other.0 m.agrees c.requires
    (omega (arith, c.requires.order, c.if-order-eq-HUGE_ORDER.false)) other.1.0
    (omega (arith, other.1.1.0, shifted c.args.order c.requires.order)) other.1.1.1 l

pub returns-then-order-eq-HUGE_ORDER-clause-no : goal.returns-then-order-eq-HUGE_ORDER-clause-no
returns-then-order-eq-HUGE_ORDER-clause-no c =
    let own = c.args.self.now.own.items in
    let key = key_by c.args.self.now in
    let nine : c.args.order ≡ 9 = c.if-order-eq-HUGE_ORDER.true in
    λ no l. huge_not key own (without (block c.args.frame c.args.order) own) c.args.frame
    (subst (λ (o : ℕ). IsBlock key (block c.args.frame o)) nine c.requires)
    (ap (λ (d : ℕ). wholes d own) (sym c.child_of.ensures) ∙ c.has_child.ensures.none no)
    (subst (λ (o : ℕ). Leaves key own (block c.args.frame o) (without (block c.args.frame c.args.order) own)) nine l)
