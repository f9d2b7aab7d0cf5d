use Rattle.std.proofs.Common.{◌≡◌, ◌+◌, ◌-◌, ◌*◌, ◌<◌, ℕ, List, length, take, true, get_or, refl, arith, rules}
use Rattle.std.specs.Char.{is_ascii_digit}
use Rattle.std.proofs.lemmas.List.Folds.{list_all_more}
use Rattle.std.proofs.lemmas.List.Sums.{fold_more}
use Rattle.frame_text.specs.Numbers.{decimal_value}
use Rattle.frame_text.proofs.numbers.decimal.Goals as goal

-- the number of one more digit
decimal_value_more : (digits : List ℕ) (i : ℕ) → i < length digits
    → decimal_value (take (i + 1) digits) ≡ 10 * decimal_value (take i digits) + (get_or digits i 0 - 48)
unfolding decimal_value
decimal_value_more digits i h = fold_more (λ n digit. 10 * n + (digit - 48)) 0 digits i 0 h

pub loop-digit-init : goal.loop-digit-init
unfolding decimal_value
loop-digit-init c = (refl, refl)

pub loop-digit-preserved : goal.loop-digit-preserved
loop-digit-preserved c =
    let digits = c.args.digits.now in
    let i = c.loop-digit.digit-index in
    let inv = c.loop-digit.invariant in
    let digit : is_ascii_digit (get_or digits i 0) ≡ true = search rules in
    let all = list_all_more is_ascii_digit digits i 0 c.loop-digit-test.true in
    let value = decimal_value_more digits i c.loop-digit-test.true in
    (rw (all, inv.0, digit) refl, omega (arith, value, inv.1))
