use Rattle.std.proofs.Common.{◌≡◌, ◌+◌, ◌-◌, ◌*◌, ◌/◌, refl, ap, subst, ◌∙◌, arith}
use Rattle.frame_model.specs.declared.view.View.{View}
use Rattle.low_frames.specs.Singles.{HasLentSome, TakesSingles}
use Rattle.low_frames.proofs.SinglesLemmas.{lent_none_at, lent_both, may_go_on_in, none_singles, both_singles, at_most_so_many}
use Rattle.low_frames.specs.SinglesAlone.{TakesUpTo, TakesOfChild}
use Rattle.low_frames.proofs.SinglesAlone.{both_held, past_held, still_held, holds_both, takes_none}
use Rattle.low_frames.proofs.singles.take_some.Goals as goal
use Rattle.low_frames.proofs.singles.take_some.Goals.{then-child-children, else-child-children}

pub loop-i-init : goal.loop-i-init
loop-i-init g c =
    let m = g.M.Moves.at c.args.m.now in
    record {
      takes = none_singles g.met.M.Moves.ticks m c.args.out.now.items (lent_none_at c.args.tree m.view)
          (λ ws. takes_none m.key (4096 * c.args.tree) 0 c.args.n ws);
      few = omega arith;
      len = omega arith;
      cap = refl;
    }

pub returns-then-got-n-clause-takes : goal.returns-then-got-n-clause-takes
returns-then-got-n-clause-takes g c =
    at_most_so_many g.met.M.Moves.ticks c.loop-i.invariant.takes (omega (arith, c.loop-i-test.true))
    (λ bs ws us p. record { holds = p.holds; none_left = λ h. absurd (omega (arith, h, c.if-got-n.true)) })

pub take_some_in-got-requires-clause-may : goal.take_some_in-got-requires-clause-may
take_some_in-got-requires-clause-may g c =
    let m = g.M.Moves.at c.args.m.now in
    let u = g.M.Moves.at c.loop-i.m in
    let was = c.loop-i.invariant in
    may_go_on_in m u c.args.tree (8 * c.args.tree + c.loop-i.i) c.args.n c.loop-i.got c.requires.may was.takes.keeps was.takes.view
    (omega (arith, c.if-child-children.true, c.children-children.ensures.value, c.geometry.ensures.0)) (omega (arith, c.loop-i-test.true))

pub loop-i-preserved : goal.loop-i-preserved
loop-i-preserved g c =
    let M = g.M.Moves in
    let B = g.M.Held.HeldBlock.block_of in
    let ticks = g.met.M.Moves.ticks in
    let m = M.at c.args.m.now in
    let u = M.at c.loop-i.m in
    let was = c.loop-i.invariant in
    let tree = c.args.tree in
    let child = 8 * tree + c.loop-i.i in
    elim c.if-child-children.branch [
      | then-child-children w ↦
          let now = w.take_some_in-got.ensures in
          let k = w.take_some_in-got.result in
          let x = M.at w.take_some_in-got.new.m in
          let here : child / 8 ≡ tree = omega (arith, c.loop-i-test.true) in
          let step : TakesSingles B M.is_exact tree (74 + k) (HasLentSome tree k)
          (TakesOfChild u.key child k (c.args.n - c.loop-i.got)) k c.loop-i.out.items w.take_some_in-got.new.out.items u x =
          subst (λ t. TakesSingles B M.is_exact t (74 + k) (HasLentSome t k)
          (TakesOfChild u.key child k (c.args.n - c.loop-i.got)) k c.loop-i.out.items w.take_some_in-got.new.out.items u x) here
          (at_most_so_many ticks now.takes (omega arith) (λ bs ws us p. p)) in
          rw (w.m-is, w.out-is, w.got-is) (record {
            takes = both_singles ticks was.takes step (ap (λ (v : View). v.kept) was.takes.view)
                (lent_both tree c.loop-i.got k m.view u.view x.view was.takes.view step.view) (omega arith)
                (λ alone es bs ws us vs e p r.
                let q : TakesOfChild m.key child k (c.args.n - c.loop-i.got) bs us vs =
                subst (λ l. TakesOfChild l child k (c.args.n - c.loop-i.got) bs us vs) was.takes.keeps.same_key r in
                record {
                  holds = holds_both m.key es bs ws us vs p.holds q.holds;
                  none_left = λ h.
                      both_held m.key (4096 * tree) (512 * c.loop-i.i) (512 * child) 512 (512 * (c.loop-i.i + 1)) vs (omega arith)
                      (omega arith)
                      (still_held m.key bs us vs (4096 * tree) (512 * c.loop-i.i) q.holds (p.none_left (omega (arith, h))))
                      (q.none_left (omega (arith, h)));
                });
            few = omega (arith, was.few, now.few);
            len = omega (arith, was.len, now.len);
            cap = now.room ∙ was.cap;
          })
      | else-child-children w ↦
          rw (w.m-is, w.out-is, w.got-is) (record {
            takes = at_most_so_many ticks was.takes (omega arith)
                (λ bs ws us p. record {
                  holds = p.holds;
                  none_left = λ h. past_held m.key (4096 * tree) (512 * c.loop-i.i) (512 * (c.loop-i.i + 1)) child us
                      (omega (arith, w.if-child-children.false, c.children-children.ensures.value, c.geometry.ensures.0)) (omega arith)
                      (p.none_left h);
                });
            few = was.few;
            len = was.len;
            cap = was.cap;
          })
    ]

pub returns-clause-takes : goal.returns-clause-takes
returns-clause-takes g c =
    let m = g.M.Moves.at c.args.m.now in
    let all : 512 * c.loop-i.i ≡ 4096 = omega (arith, c.loop-i-test.false, c.loop-i.auto.i-end) in
    at_most_so_many g.met.M.Moves.ticks c.loop-i.invariant.takes (omega (arith, c.loop-i.auto.i-end))
    (λ bs ws us p. subst (λ n. TakesUpTo m.key (4096 * c.args.tree) n c.loop-i.got c.args.n bs ws us) all p)
