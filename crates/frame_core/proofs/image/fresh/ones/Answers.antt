use Rattle.std.proofs.Common.{◌≡◌, ℕ, ◌+◌, ◌-◌, ◌*◌, ◌%◌, ◌^◌, ◌≤◌, ap, arith}
use Rattle.std.proofs.Math.Pow.{pow_mono}
use Rattle.std.proofs.lemmas.Nat.{one_shl}
use Rattle.frame_core.proofs.image.fresh.ones.Goals as goal

shifted : (n : ℕ) → n ≤ 64 → 1 * 2 ^ n % 2 ^ 128 ≡ 2 ^ n
shifted n h = one_shl n 128 (omega arith)

pub overflow_sub-result : goal.overflow_sub-result
overflow_sub-result c =
    omega (
      arith,
      shifted c.args.from (omega (arith, c.requires.order, c.requires.inside)),
      shifted c.args.end c.requires.inside,
      pow_mono {i = c.args.from} {j = c.args.end} c.requires.order,
    )

pub returns : goal.returns
returns c =
    let e : c.args.from + (c.args.end - c.args.from) ≡ c.args.end = omega (arith, c.requires.order) in
    omega (
      arith,
      shifted c.args.from (omega (arith, c.requires.order, c.requires.inside)),
      shifted c.args.end c.requires.inside,
      ap (λ n. 2 ^ n) e,
    )
