use Rattle.std.proofs.Common.{ℕ, ◌^◌, ap, arith}
use Rattle.plain_moves.proofs.Checks.{same_run, shifted}
use Rattle.plain_moves.proofs.plain.PlainMoves.try_claim.Goals as goal

pub returns-then-not-has_paid-clause-refused : goal.returns-then-not-has_paid-clause-refused
returns-then-not-has_paid-clause-refused c = λ no may.
    let can = may.1.1.1 in
    let is = c.in-Some.ensures in
    let same = same_run c.args.mask may.0 may.1.0 c.in-Some._from c.in-Some.order c.ranges.mask.fits can.is_run.fits may.1.1.0 is.fits
    is.bits in
    let size = ap (λ (o : ℕ). 2 ^ o) same.1 in
    let cut = shifted c.in-Some.order (omega (arith, is.order)) in
    c.has_paid.ensures.no c.if-not-has_paid.true (omega (arith, can.charged, size, cut)) (omega (arith, can.paid, size, cut))
