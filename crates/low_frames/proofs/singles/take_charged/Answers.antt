use Rattle.std.proofs.Common.{◌≡◌, ◌+◌, ◌-◌, ◌*◌, ◌/◌, refl, ap, subst, ◌∙◌, arith}
use Rattle.frame_model.specs.declared.view.View.{View}
use Rattle.low_frames.specs.Singles.{MayTakeRuns, HasTakenSome, TakesSingles}
use Rattle.low_frames.proofs.SinglesLemmas.{may_go_on, taken_none, taken_both, none_singles, both_singles, at_most_so_many}
use Rattle.low_frames.specs.SinglesAlone.{ClaimsUpTo, ClaimsOfWord}
use Rattle.low_frames.proofs.SinglesAlone.{both_held, still_held, claims_none, claims_at, claims_both}
use Rattle.low_frames.proofs.singles.take_charged.Goals as goal

pub loop-i-init : goal.loop-i-init
loop-i-init g c =
    let m = g.M.Moves.at c.args.m.now in
    record {
      takes = none_singles g.met.M.Moves.ticks m c.args.out.now.items (taken_none c.args.child m.view)
          (λ ws. claims_none m.key (512 * c.args.child) 0 c.args.n ws);
      few = omega arith;
      len = omega arith;
      cap = refl;
    }

pub take_in_word-got-requires-clause-may : goal.take_in_word-got-requires-clause-may
take_in_word-got-requires-clause-may g c =
    let m = g.M.Moves.at c.args.m.now in
    let u = g.M.Moves.at c.loop-i.m in
    let was = c.loop-i.invariant in
    let here : c.args.child ≡ (8 * c.args.child + c.loop-i.i) / 8 = omega (arith, c.loop-i-test.true) in
    subst (λ k. MayTakeRuns k (c.args.n - c.loop-i.got) u) here
    (may_go_on m u c.args.child c.args.n c.loop-i.got c.requires.may was.takes.keeps was.takes.view)

pub loop-i-preserved : goal.loop-i-preserved
loop-i-preserved g c =
    let M = g.M.Moves in
    let B = g.M.Held.HeldBlock.block_of in
    let m = M.at c.args.m.now in
    let u = M.at c.loop-i.m in
    let w = M.at c.take_in_word-got.new.m in
    let was = c.loop-i.invariant in
    let now = c.take_in_word-got.ensures in
    let k = c.take_in_word-got.result in
    let word = 8 * c.args.child + c.loop-i.i in
    let here : (8 * c.args.child + c.loop-i.i) / 8 ≡ c.args.child = omega (arith, c.loop-i-test.true) in
    let step : TakesSingles B M.is_exact (c.args.child / 8) (8 + k) (HasTakenSome c.args.child k)
    (ClaimsOfWord u.key word k (c.args.n - c.loop-i.got)) k c.loop-i.out.items c.take_in_word-got.new.out.items u w =
    subst (λ d. TakesSingles B M.is_exact (d / 8) (8 + k) (HasTakenSome d k)
    (ClaimsOfWord u.key word k (c.args.n - c.loop-i.got)) k c.loop-i.out.items c.take_in_word-got.new.out.items u w) here now.takes in
    record {
      takes = both_singles g.met.M.Moves.ticks was.takes step (ap (λ (v : View). v.kept) was.takes.view)
          (taken_both c.args.child c.loop-i.got k m.view u.view w.view was.takes.view step.view) (omega arith)
          (λ alone es bs ws us vs e p r.
          let q : ClaimsOfWord m.key word k (c.args.n - c.loop-i.got) bs us vs =
          subst (λ l. ClaimsOfWord l word k (c.args.n - c.loop-i.got) bs us vs) was.takes.keeps.same_key r in
          claims_both m.key es bs ws us vs (512 * c.args.child) (64 * (c.loop-i.i + 1)) (c.loop-i.got + k) c.args.n p q
          (λ h. both_held m.key (512 * c.args.child) (64 * c.loop-i.i) (64 * word) 64 (64 * (c.loop-i.i + 1)) vs (omega arith)
          (omega arith)
          (still_held m.key bs us vs (512 * c.args.child) (64 * c.loop-i.i) q.takes.holds (p.takes.none_left (omega (arith, h))))
          (q.takes.none_left (omega (arith, h)))));
      few = omega (arith, was.few, now.few);
      len = omega (arith, was.len, now.len);
      cap = now.room ∙ was.cap;
    }

pub returns-clause-takes : goal.returns-clause-takes
returns-clause-takes g c =
    let m = g.M.Moves.at c.args.m.now in
    let all : 64 * c.loop-i.i ≡ 512 = omega (arith, c.loop-i-test.false, c.loop-i.auto.i-end) in
    at_most_so_many g.met.M.Moves.ticks c.loop-i.invariant.takes (omega (arith, c.loop-i.auto.i-end))
    (λ bs ws us p. subst (λ n. ClaimsUpTo m.key (512 * c.args.child) n c.loop-i.got c.args.n bs ws us) all p)

pub returns-then-got-n-clause-takes : goal.returns-then-got-n-clause-takes
returns-then-got-n-clause-takes g c =
    let m = g.M.Moves.at c.args.m.now in
    at_most_so_many g.met.M.Moves.ticks c.loop-i.invariant.takes (omega (arith, c.loop-i-test.true))
    (λ bs ws us p. claims_at m.key bs ws us us (512 * c.args.child) 512 c.loop-i.got c.args.n p refl
    (λ h. absurd (omega (arith, h, c.if-got-n.true))))
