use Rattle.std.proofs.lemmas.Nat.{pow_pos}
use Rattle.std.proofs.Common.{ℕ, ◌≤◌, ◌%◌, ◌*◌, ◌^◌, ap, sym, ◌∙◌, arith}
use Rattle.frame_model.specs.Words.{run}
use Rattle.std.specs.Int.Count.{ones, count_trailing_zeros}
use Rattle.plain_moves.proofs.Checks.{run_fits, run_found, shifted}
use Rattle.plain_moves.proofs.plain.tries.words.run_in.Goals as goal

pub returns-clause-fits : goal.returns-clause-fits
returns-clause-fits c =
    let o = count_trailing_zeros 32 (ones c.args.mask) in
    let from = count_trailing_zeros 64 c.args.mask in
    let small : o ≤ 6 = omega (arith, c.if-order-gt-WORD_ORDER.false) in
    let s = shifted o (omega (arith, small)) in
    run_fits o from small (omega (arith, c.if-from-ge-WORD_FRAMES.false)) (ap (λ k. from % k) (sym s) ∙ c.if-from-order-ne0.false)

pub returns-then-order-gt-WORD_ORDER-clause-none : goal.returns-then-order-gt-WORD_ORDER-clause-none
returns-then-order-gt-WORD_ORDER-clause-none c = λ none f o e small aligned fits.
    let r = run_found c.args.mask f o c.ranges.mask.fits fits e in
    omega (arith, c.if-order-gt-WORD_ORDER.true, r.1, small)

pub returns-then-from-ge-WORD_FRAMES-clause-none : goal.returns-then-from-ge-WORD_FRAMES-clause-none
returns-then-from-ge-WORD_FRAMES-clause-none c = λ none f o e small aligned fits.
    let r = run_found c.args.mask f o c.ranges.mask.fits fits e in
    omega (arith, c.if-from-ge-WORD_FRAMES.true, r.0, fits, pow_pos o)

pub returns-then-from-order-ne0-clause-none : goal.returns-then-from-order-ne0-clause-none
returns-then-from-order-ne0-clause-none c = λ none f o e small aligned fits.
    let r = run_found c.args.mask f o c.ranges.mask.fits fits e in
    c.if-from-order-ne0.true
    (ap (λ (k : ℕ). k % (1 * 2 ^ count_trailing_zeros 32 (ones c.args.mask) % 4294967296)) r.0
    ∙ ap (λ (j : ℕ). f % (1 * 2 ^ j % 4294967296)) r.1 ∙ ap (λ (k : ℕ). f % k) (shifted o (omega (arith, small))) ∙ aligned)

pub returns-then-mask-clause-none : goal.returns-then-mask-clause-none
returns-then-mask-clause-none c = λ none f o e small aligned fits.
    let r = run_found c.args.mask f o c.ranges.mask.fits fits e in
    c.if-mask.true (c.mask.ensures.value ∙ ap (λ (k : ℕ). run k (2 ^ count_trailing_zeros 32 (ones c.args.mask))) r.0
    ∙ ap (λ (j : ℕ). run f (2 ^ j)) r.1 ∙ sym e)
