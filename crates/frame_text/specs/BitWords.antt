-- Bit words as hexadecimal digits, 16 for each word, the highest digit first.
use Rattle.std.specs.Prelude.{ℕ, ◌*◌, List, map, drop, Option, option_map}
use Rattle.std.specs.List.{flat_map, range_with_len}
use Rattle.std.specs.Result.{result_ok}
use Rattle.byteorder.specs.Endian.{big_bytes, big_number}
use Rattle.hex.specs.Hex.{decode_sized, encode_lower}

-- the eight words of 64 bytes, the highest byte of each first
unfoldable pub words_of : List ℕ → List ℕ
words_of bytes = map (λ word. big_number 8 (drop (8 * word) bytes)) (range_with_len 0 8)

-- the eight words that 128 digits spell, in either case
unfoldable pub words_in : List ℕ → Option (List ℕ)
words_in field = option_map words_of (result_ok (decode_sized field 64))

-- the digits of words, in lower case
unfoldable pub hex_text : List ℕ → List ℕ
hex_text words = encode_lower (flat_map (big_bytes 8) words)
