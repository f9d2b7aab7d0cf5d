-- Labels, and the numbers that stand for them.
use Rattle.std.specs.Prelude.{ℕ, ◌+◌, ◌*◌, ◌==◌, ◌&&◌, ◌||◌, Bool, List, [], ◌∷◌, length}
use Rattle.std.specs.Prelude.{nat_lt, nat_le, Option, Some, None, if◌then◌else◌}
use Rattle.std.specs.List.{list_all}
use Rattle.std.specs.Char.{is_ascii_alphanumeric}

-- a label's byte is an ASCII letter, a digit, `_` or `-`
unfoldable pub is_label_byte : ℕ → Bool
is_label_byte byte = is_ascii_alphanumeric byte || (byte == 95) || (byte == 45)

-- a label has 1 to 16 such bytes
unfoldable pub is_label : List ℕ → Bool
is_label bytes = nat_lt 0 (length bytes) && nat_le (length bytes) 16 && list_all is_label_byte bytes

-- the label of these bytes, if they are one
unfoldable pub label_of : List ℕ → Option (List ℕ)
label_of bytes = if is_label bytes then Some bytes else None

-- the number whose digits to the base 256 are these bytes, the lowest first
abbrev pub packed : List ℕ → ℕ
packed [] = 0
packed (x ∷ xs) = x + 256 * packed xs
