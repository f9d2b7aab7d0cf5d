-- How texts grow by one record.
use Rattle.std.proofs.Common.{Option, ◌≡◌, ◌∙◌, ℕ, ◌+◌, List, ◌∷◌, [], ◌++◌, map, ap, sym, arith, append_assoc}
use Rattle.std.specs.List.{range_with_len}
use Rattle.std.proofs.lemmas.Grind.{flat_map-append}
use Rattle.std.proofs.lemmas.List.{append-nil}
use Rattle.std.proofs.lemmas.List.FromFn.{map-range_with_len_more}
use Rattle.csv.specs.Writing.{default_writer, row_text}
use Rattle.frame_model.specs.declared.key.Key.{Key}
use Rattle.frame_model.specs.Words.{rest_of}
use Rattle.frame_text.specs.ImageText.{text_of, core_row, rest_row}

-- one record more
pub text_more : (row : ℕ → List (List ℕ)) (start text new : List ℕ) (n : ℕ)
    → text ≡ start ++ text_of (map row (range_with_len 0 n))
    → new ≡ text ++ row_text default_writer (row n)
    → new ≡ start ++ text_of (map row (range_with_len 0 (n + 1)))
text_more row start text new n so_far more =
    more
    ∙ ap (λ t. t ++ row_text default_writer (row n)) so_far
    ∙ append_assoc start (text_of (map row (range_with_len 0 n))) (row_text default_writer (row n))
    ∙ ap (λ t. start ++ t) (sym (
    ap text_of (map-range_with_len_more row 0 n n (omega arith))
    ∙ flat_map-append (row_text default_writer) (map row (range_with_len 0 n)) (row n ∷ [])
    ∙ ap (λ t. text_of (map row (range_with_len 0 n)) ++ t) (append-nil (row_text default_writer (row n)))))

-- the record of a core is that of its reservation
pub core_row_is : (key : Key) (words : List ℕ) (core : ℕ) (rest : Option (ℕ × ℕ)) → rest ≡ rest_of key words core
    → rest_row core rest ≡ core_row key words core
unfolding core_row
core_row_is key words core rest e = ap (rest_row core) e
