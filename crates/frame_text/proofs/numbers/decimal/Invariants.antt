use Rattle.std.proofs.Common.{◌≡◌, ◌-◌, ◌^◌, min, true, take}
use Rattle.std.specs.List.{list_all}
use Rattle.std.specs.Char.{is_ascii_digit}
use Rattle.frame_text.specs.Numbers.{decimal_value}
use Rattle.frame_text.proofs.numbers.decimal.Given as goal

abbrev pub invariant-loop-digit : goal.invariant-loop-digit
invariant-loop-digit l =
    (list_all is_ascii_digit (take l.digit-index l.digits) ≡ true)
    × (l.value ≡ min (decimal_value (take l.digit-index l.digits)) (2 ^ 64 - 1))
