use Rattle.std.proofs.Common.{◌≡◌, ◌+◌, ◌*◌, ◌<◌, refl, ap, sym, subst, ◌∙◌, arith}
use Rattle.frame_model.specs.declared.key.Key.{Key}
use Rattle.frame_model.specs.declared.view.View.{View}
use Rattle.frame_model.specs.Key.{tree_count}
use Rattle.low_frames.specs.Singles.{HasLentSome, TakesSingles}
use Rattle.frame_model.specs.Words.{rest_of}
use Rattle.low_frames.specs.Takes.{IsAsBefore}
use Rattle.low_frames.specs.SinglesAlone.{AreHeld, HoldsMoreOf, TakesOfTree}
use Rattle.low_frames.proofs.SinglesAlone.{found_here}
use Rattle.low_frames.proofs.SinglesLemmas.{none_singles, then_nothing, nothing_then}
use Rattle.core_frames.specs.Alone.{SameFrames}
use Rattle.core_frames.specs.Fills.{HasLentMany, HasNoneToPay, FillsFrom}
use Rattle.core_frames.proofs.FillLemmas.{left_paid, lent_refunded, lent_whole, lent_nothing, same_holds, fills_from, fills_still}
use Rattle.core_frames.proofs.Carried.{paid_there}
use Rattle.core_frames.proofs.KeptFrames.{if_some, same_frames}
use Rattle.core_frames.proofs.search.fills.take_some_own.Goals as goal

pub take_some-got-requires-clause-may : goal.take_some-got-requires-clause-may
take_some-got-requires-clause-may g c =
    let u = g.M.Moves.at c.pay_some.new.m in
    let paid = c.in-Some.ensures.some in
    let idle = c.requires.may.idle in
    record {
      tree = subst (λ (k : Key). c.in-Some.tree < tree_count k) (sym c.in-Some.ensures.keeps.same_key) paid.tree_inside;
      share = omega (arith, ap (λ (v : View). v.share) paid.view, idle.share);
      charged = ap (λ (v : View). v.charged) paid.view ∙ idle.charged;
      own = ap (λ (v : View). v.own) paid.view ∙ idle.own;
      paid = omega (arith, paid_there c.in-Some.tree c.in-Some.paid u.view (ap (λ (v : View). v.paid) paid.view));
    }

pub refund-requires : goal.refund-requires
refund-requires g c =
    let M = g.M.Moves in
    let m = M.at c.args.m.now in
    let u = M.at c.pay_some.new.m in
    let w = M.at c.take_some-got.new.m in
    let paid = c.in-Some.ensures.some in
    let took = c.take_some-got.ensures.takes in
    let key = took.keeps.same_key ∙ c.in-Some.ensures.keeps.same_key in
    record {
      core = subst (λ (k : Key). c.args.core < k.cores) (sym key) c.requires.may.core;
      tree = subst (λ (k : Key). c.in-Some.tree < tree_count k) (sym key) paid.tree_inside;
      share = omega (arith, ap (λ (v : View). v.share) took.view, ap (λ (v : View). v.share) paid.view, c.requires.may.idle.share);
      paid = left_paid c.in-Some.tree c.in-Some.paid c.take_some-got.result m.view u.view w.view paid.view took.view;
    }

pub returns-in_default-clause-takes : goal.returns-in_default-clause-takes
returns-in_default-clause-takes g c =
    let M = g.M.Moves in
    let ticks = g.met.M.Moves.ticks in
    let m = M.at c.args.m.now in
    let u = M.at c.pay_some.new.m in
    let none = c.in_default.ensures in
    record {
      tree = 0;
      takes = then_nothing ticks
          (none_singles ticks {V = IsAsBefore} {F = λ bs ws us. (us ≡ ws) × HoldsMoreOf m.key bs ws us} m c.args.out.now.items refl
          (λ ws. (refl, same_holds m.key ws ws (same_frames m.key ws))))
          none.keeps none.counts (lent_nothing m.view u.view none.none) (omega arith)
          (λ alone. found_here _ m.words u.words (none.alone_none alone))
          (λ alone bs ws us vs d e p q. record {
            holds = subst (HoldsMoreOf m.key bs ws) (sym q.0) p.1;
            none_left = if_some (rest_of m.key ws c.args.core) (λ rest. 0 < c.args.n → rest.1 ≡ 0)
                (λ rest. 0 < c.args.n → 0 < rest.1 → AreHeld m.key (4096 * rest.0) 4096 vs)
                (subst (λ l. HasNoneToPay m.key c.args.core c.args.n l) (q.0 ∙ p.0) q.1)
                (λ rest z few more. absurd (omega (arith, z few, more)));
          });
    }

pub returns-then-got-paid-clause-takes : goal.returns-then-got-paid-clause-takes
returns-then-got-paid-clause-takes g c =
    let M = g.M.Moves in
    let B = g.M.Held.HeldBlock.block_of in
    let ticks = g.met.M.Moves.ticks in
    let m = M.at c.args.m.now in
    let u = M.at c.pay_some.new.m in
    let w = M.at c.take_some-got.new.m in
    let x = M.at c.refund.new.m in
    let t = c.in-Some.tree in
    let k = c.take_some-got.result in
    let paid = c.in-Some.ensures.some in
    let took = c.take_some-got.ensures.takes in
    let back = c.refund.ensures in
    let taken : TakesSingles B M.is_exact t (8 + (592 + k)) (λ v y. y ≡ w.view)
    (FillsFrom m.key c.args.core k c.args.n) k c.args.out.now.items c.take_some-got.new.out.items m w =
    nothing_then ticks c.in-Some.ensures.keeps c.in-Some.ensures.counts took (ap (λ (v : View). v.kept) paid.view) refl (omega arith)
    (λ alone. c.in-Some.ensures.alone_some alone)
    (λ alone bs ws us vs d h p q. fills_from m.key c.args.core c.args.n t c.in-Some.paid k bs ws us vs p
    (subst (λ i. TakesOfTree i t k c.in-Some.paid bs us vs) c.in-Some.ensures.keeps.same_key q)) in
    record {
      tree = t;
      takes = then_nothing ticks taken back.keeps back.counts
          (lent_refunded t c.in-Some.paid k m.view u.view w.view x.view c.requires.may.idle paid.view took.view back.view) (omega arith)
          (λ alone. back.alone alone)
          (λ alone bs ws us vs d e p q. fills_still m.key c.args.core c.args.n k bs ws us vs p
          (subst (λ i. SameFrames i us vs) (took.keeps.same_key ∙ c.in-Some.ensures.keeps.same_key) q));
    }

pub returns-else-got-paid-clause-takes : goal.returns-else-got-paid-clause-takes
returns-else-got-paid-clause-takes g c =
    let M = g.M.Moves in
    let ticks = g.met.M.Moves.ticks in
    let m = M.at c.args.m.now in
    let u = M.at c.pay_some.new.m in
    let w = M.at c.take_some-got.new.m in
    let t = c.in-Some.tree in
    let k = c.take_some-got.result in
    let paid = c.in-Some.ensures.some in
    let took = c.take_some-got.ensures.takes in
    let all : c.in-Some.paid ≡ k = omega (arith, c.if-got-paid.false, c.take_some-got.ensures.few) in
    record {
      tree = t;
      takes = nothing_then ticks c.in-Some.ensures.keeps c.in-Some.ensures.counts took (ap (λ (v : View). v.kept) paid.view)
          (subst (λ n. HasLentMany n m.view w.view) all
          (lent_whole t c.in-Some.paid m.view u.view w.view c.requires.may.idle paid.view
          (subst (λ n. HasLentSome t n u.view w.view) (sym all) took.view))) (omega arith)
          (λ alone. c.in-Some.ensures.alone_some alone)
          (λ alone bs ws us vs d h p q. fills_from m.key c.args.core c.args.n t c.in-Some.paid k bs ws us vs p
          (subst (λ i. TakesOfTree i t k c.in-Some.paid bs us vs) c.in-Some.ensures.keeps.same_key q));
    }
