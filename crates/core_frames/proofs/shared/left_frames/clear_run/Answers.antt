use Rattle.std.proofs.Common.{⊎_elim, inl, inr, arith}
use Rattle.std.proofs.lemmas.Bool.{cases_lt}
use Rattle.core_frames.proofs.shared.left_frames.clear_run.Goals as goal

pub returns-clause-others : goal.returns-clause-others
returns-clause-others c x out =
    let others = c.loop-x.invariant.others in
    ⊎_elim (λ below. others x (inl below))
    (λ above. ⊎_elim (λ low. others x (inl low))
    (λ high. others x (inr (omega (arith, above, high, c.requires.0, c.loop-x.auto.x, c.loop-x.auto.x-end)))) (cases_lt x c.args.from))
    out
