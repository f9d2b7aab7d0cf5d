-- A number in decimal is read back as itself.
use Rattle.std.proofs.Common.{◌≡◌, ◌∙◌, ℕ, zero, suc, ◌+◌, ◌-◌, ◌*◌, ◌%◌, ◌^◌, ◌<◌, ◌≤◌, List, []}
use Rattle.std.proofs.Common.{◌∷◌, ◌++◌, length, true, Some, refl, arith}
use Rattle.std.specs.Prelude.{decimal, nat_lt, nat_le, nat_eq}
use Rattle.std.specs.List.{list_all}
use Rattle.std.specs.Char.{is_ascii_digit}
use Rattle.std.proofs.lemmas.Bool.Decides.{nat_tests}
use Rattle.std.proofs.lemmas.Fmt.{decimal_by_steps, decimal_nonempty, length-decimal-le}
use Rattle.std.proofs.lemmas.List.Folds.{list_all-append}
use Rattle.std.proofs.lemmas.List.Sums.{fold-append}
use Rattle.frame_words.specs.Words.{flag}
use Rattle.frame_text.specs.Numbers.{decimal_value, is_number, number_below}
use Rattle.frame_text.specs.ImageText.{spells, flag_said}

digit_is : (d : ℕ) → d < 10 → is_ascii_digit (48 + d) ≡ true
digit_is d h = grind (arith, nat_tests)

decimal_digits : (n : ℕ) → n < 2 ^ 64 → list_all is_ascii_digit (decimal n) ≡ true
decimal_digits =
    decimal_by_steps (λ m ds. list_all is_ascii_digit ds ≡ true)
    (λ m l. rw (digit_is m l) refl)
    (λ m ds l h. list_all-append is_ascii_digit ds ((48 + m % 10) ∷ []) ∙ rw (h, digit_is (m % 10) (omega arith)) refl)

decimal_value_last : (ds : List ℕ) (c : ℕ) → decimal_value (ds ++ c ∷ []) ≡ 10 * decimal_value ds + (c - 48)
unfolding decimal_value
decimal_value_last ds c = fold-append (λ n digit. 10 * n + (digit - 48)) 0 ds (c ∷ [])

decimal_value_one : (c : ℕ) → decimal_value (c ∷ []) ≡ c - 48
unfolding decimal_value
decimal_value_one c = omega arith

pub decimal_value-decimal : (n : ℕ) → n < 2 ^ 64 → decimal_value (decimal n) ≡ n
decimal_value-decimal =
    decimal_by_steps (λ m ds. decimal_value ds ≡ m)
    (λ m l. omega (arith, decimal_value_one (48 + m)))
    (λ m ds l h. omega (arith, decimal_value_last ds (48 + m % 10), h))

pub is_number-decimal : (n : ℕ) → n < 2 ^ 64 → is_number (decimal n) ≡ true
is_number-decimal n h =
    let some : nat_lt 0 (length (decimal n)) ≡ true = let l = decimal_nonempty n h in grind (arith, nat_tests) in
    let few : nat_le (length (decimal n)) 20 ≡ true = let l =
    length-decimal-le 20 n (omega arith) (omega arith) h in grind (arith, nat_tests) in
    rw (some, few, decimal_digits n h) refl

-- a number below a limit
pub number_below-decimal : (limit n : ℕ) → n < limit → n < 2 ^ 64 → number_below limit (decimal n) ≡ Some n
unfolding number_below
number_below-decimal limit n l h =
    let low : nat_lt n limit ≡ true = grind (arith, nat_tests) in
    rw (is_number-decimal n h, decimal_value-decimal n h, low) refl

-- exactly this number
pub spells-decimal : (n : ℕ) → n < 2 ^ 64 → spells n (decimal n) ≡ true
unfolding spells
spells-decimal n h =
    let same : nat_eq n n ≡ true = grind (arith, nat_tests) in
    rw (is_number-decimal n h, decimal_value-decimal n h, same) refl

-- a flag
pub flag_said-decimal : (n : ℕ) → n < 2 → flag_said (decimal n) ≡ Some (nat_eq n 1)
unfolding flag_said
flag_said-decimal n h = rw (number_below-decimal 2 n h (omega arith)) refl

pub flag_of_test : (n : ℕ) → n ≤ 1 → flag (nat_eq n 1) ≡ n
flag_of_test zero h = refl
flag_of_test (suc zero) h = refl
flag_of_test (suc (suc n)) h = absurd (omega arith)
