-- Each turn doubles the runs that the bits mark.
use Rattle.std.proofs.Common.{◌≡◌, ℕ, ◌+◌, ◌*◌, ◌/◌, ◌%◌, ◌^◌, ◌<◌, sym, subst, arith}
use Rattle.std.specs.Int.Bits.{bit_and}
use Rattle.std.proofs.Math.Pow.{pow_mono}
use Rattle.std.proofs.lemmas.Nat.{one_shl}
use Rattle.frame_words.proofs.RunLemmas.{Marks, marks_one, marks_more}
use Rattle.frame_words.proofs.runs.clear_from.Goals as goal

distance : (step : ℕ) → step < 6 → 1 * 2 ^ step % 2 ^ 32 ≡ 2 ^ step
distance step few = one_shl step 32 (omega arith)

pub loop-step-init : goal.loop-step-init
loop-step-init c = marks_one c.args.word (omega arith)

pub overflow_shr-starts : goal.overflow_shr-starts
overflow_shr-starts c =
    let few : c.loop-step.step < 6 = omega arith in
    omega (arith, distance c.loop-step.step few, pow_mono {i = c.loop-step.step} {j = 5} (omega arith))

pub loop-step-preserved : goal.loop-step-preserved
loop-step-preserved c =
    let few : c.loop-step.step < 6 = omega arith in
    subst (λ d. Marks c.args.word (2 ^ (c.loop-step.step + 1)) (bit_and c.loop-step.starts (c.loop-step.starts / 2 ^ d)))
    (sym (distance c.loop-step.step few))
    (marks_more c.args.word c.loop-step.step c.loop-step.starts c.loop-step.invariant)
