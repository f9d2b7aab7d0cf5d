-- The numbers that fields spell.
use Rattle.std.specs.Prelude.{ℕ, ◌+◌, ◌-◌, ◌*◌, ◌&&◌, Bool, List, length, nat_lt, nat_le, fold}
use Rattle.std.specs.Prelude.{Option, Some, None, if◌then◌else◌}
use Rattle.std.specs.List.{list_all}
use Rattle.std.specs.Char.{is_ascii_digit}

-- the number that decimal digits spell
unfoldable pub decimal_value : List ℕ → ℕ
decimal_value digits = fold (λ n digit. 10 * n + (digit - 48)) 0 digits

-- a number has 1 to 20 decimal digits; leading zeros are accepted
abbrev pub is_number : List ℕ → Bool
is_number field =
    nat_lt 0 (length field) && nat_le (length field) 20 && list_all is_ascii_digit field

-- the number below a limit that a field spells
unfoldable pub number_below : ℕ → List ℕ → Option ℕ
number_below limit field =
    if is_number field && nat_lt (decimal_value field) limit
    then Some (decimal_value field) else None
