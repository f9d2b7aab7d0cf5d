-- Words and their digits.
use Rattle.std.proofs.Common.{◌≡◌, ◌∙◌, ℕ, zero, suc, ◌+◌, ◌*◌, ◌^◌, ◌<◌, List, [], ◌∷◌, ◌++◌, drop, length}
use Rattle.std.proofs.Common.{Some, refl, ap, sym, arith}
use Rattle.std.specs.Prelude.{slice_index, option_map}
use Rattle.std.specs.Int.{byte_at}
use Rattle.std.specs.List.{flat_map}
use Rattle.std.specs.Result.{result_ok}
use Rattle.std.proofs.lemmas.List.{drop-drop}
use Rattle.std.proofs.lemmas.List.FromFn.{fill_by_all}
use Rattle.byteorder.specs.Endian.{big_bytes, big_number, IsRead}
use Rattle.byteorder.specs.Numbers.{big_number-reads_back}
use Rattle.hex.specs.Hex.{IsBytes}
use Rattle.hex.proofs.HexLemmas.{decode_sized-encode_lower}
use Rattle.frame_text.specs.BitWords.{hex_text, words_in, words_of}

-- what is read of bytes is their words
pub words_read : (bytes words : List ℕ) → length words ≡ 8 → IsRead big_number 8 bytes words → words ≡ words_of bytes
unfolding words_of
words_read bytes words eight read =
    fill_by_all (λ w. big_number 8 (drop (8 * w) bytes)) words 8 0 eight (λ k few. read k (omega arith))

byte_few : (k w : ℕ) → byte_at k w < 256
byte_few zero w = omega arith
byte_few (suc k) w = omega arith

word_bytes : (n w : ℕ) (bytes : List ℕ) → IsBytes bytes → IsBytes (big_bytes n w ++ bytes)
word_bytes zero w bytes all i = all i
word_bytes (suc n) w bytes all zero = byte_few n w
word_bytes (suc n) w bytes all (suc i) = word_bytes n w bytes all i

are_bytes : (words : List ℕ) → IsBytes (flat_map (big_bytes 8) words)
are_bytes [] = λ i. omega arith
are_bytes (w ∷ words) = word_bytes 8 w (flat_map (big_bytes 8) words) (are_bytes words)

byte_count : (words : List ℕ) → length (flat_map (big_bytes 8) words) ≡ 8 * length words
byte_count [] = refl
byte_count (w ∷ words) = omega (arith, byte_count words)

-- a word stands at its bytes
word_at : (words : List ℕ) (k : ℕ) → k < length words → slice_index words k < 2 ^ 64
    → slice_index words k ≡ big_number 8 (drop (8 * k) (flat_map (big_bytes 8) words))
word_at [] k few small = absurd (omega arith)
word_at (w ∷ words) zero few small = sym (big_number-reads_back 8 w (flat_map (big_bytes 8) words) small)
word_at (w ∷ words) (suc k) few small =
    let all = flat_map (big_bytes 8) (w ∷ words) in
    let next : 8 + 8 * k ≡ 8 * suc k = omega arith in
    word_at words k (omega arith) small ∙ ap (big_number 8) (drop-drop (8 * k) 8 all ∙ ap (λ n. drop n all) next)

-- the digits of words spell them
pub words_in-hex_text : (words : List ℕ) → length words ≡ 8 → ((k : ℕ) → k < 8 → slice_index words k < 2 ^ 64)
    → words_in (hex_text words) ≡ Some words
unfolding words_in words_of hex_text
words_in-hex_text words eight small =
    let bytes = flat_map (big_bytes 8) words in
    let size : length bytes ≡ 64 = omega (arith, byte_count words, eight) in
    ap (λ r. option_map words_of (result_ok r)) (decode_sized-encode_lower bytes 64 size (are_bytes words))
    ∙ ap Some (sym (fill_by_all (λ w. big_number 8 (drop (8 * w) bytes)) words 8 0 eight
    (λ k few. word_at words k (omega arith) (small k few))))
