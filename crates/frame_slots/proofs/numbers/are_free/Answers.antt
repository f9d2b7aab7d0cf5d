use Rattle.std.proofs.Common.{◌≡◌, ⊎_elim, ℕ, ◌<◌, ◌≤◌, subst, arith, rules}
use Rattle.std.proofs.lemmas.Bool.{cases_lt}
use Rattle.frame_slots.specs.Numbers.{IsHeldBy}
use Rattle.frame_slots.proofs.numbers.are_free.Goals as goal

pub loop-x-preserved : goal.loop-x-preserved
loop-x-preserved c =
    let last : ¬ IsHeldBy c.args.numbers.now c.loop-x.x = search rules in
    λ i low less.
    ⊎_elim (λ (below : i < c.loop-x.x). c.loop-x.invariant i low below)
    (λ (above : c.loop-x.x ≤ i).
    let e : c.loop-x.x ≡ i = omega arith in subst (λ (n : ℕ). ¬ IsHeldBy c.args.numbers.now n) e last)
    (cases_lt i c.loop-x.x)
