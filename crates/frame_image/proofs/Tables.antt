-- How the table of a report grows by the record of one tree.
use Rattle.std.proofs.Common.{◌≡◌, ◌∙◌, ℕ, ◌+◌, ◌<◌, List, []}
use Rattle.std.proofs.Common.{◌∷◌, ◌++◌, take, length, length-take, get_or, refl, ap}
use Rattle.std.proofs.Common.{sym, arith}
use Rattle.std.specs.Prelude.{codes, decimal}
use Rattle.std.proofs.lemmas.Grind.{flat_map-append}
use Rattle.std.proofs.lemmas.List.{append-nil, take_more}
use Rattle.csv.specs.Writing.{default_writer, row_text}
use Rattle.frame_text.specs.ImageText.{text_of}
use Rattle.frame_image.specs.Tally.{number_row, number_rows}

rows_last : (t : ℕ) (xs : List (List ℕ)) (x : List ℕ) (n : ℕ) → t + length xs ≡ n
    → number_rows t (xs ++ x ∷ []) ≡ number_rows t xs ++ number_row (codes "tree") (decimal n) x ∷ []
unfolding number_rows
rows_last t [] x n e = let here : t ≡ n = omega arith in ap (λ k. number_row (codes "tree") (decimal k) x ∷ []) here
rows_last t (y ∷ ys) x n e = ap (λ rs. number_row (codes "tree") (decimal t) y ∷ rs) (rows_last (t + 1) ys x n (omega arith))

pub no_rows : [] ≡ text_of (number_rows 0 [])
unfolding number_rows
no_rows = refl

-- the record of one tree more
pub table_more : (trees : List (List ℕ)) (i : ℕ) (text new place : List ℕ) (numbers : List ℕ) → i < length trees
    → text ≡ text_of (number_rows 0 (take i trees)) → place ≡ decimal i → numbers ≡ get_or trees i []
    → new ≡ text ++ row_text default_writer (number_row (codes "tree") place numbers)
    → new ≡ text_of (number_rows 0 (take (i + 1) trees))
table_more trees i text new place numbers h so_far at is more =
    let row : List (List ℕ) = number_row (codes "tree") (decimal i) (get_or trees i []) in
    let rows : List (List (List ℕ)) = number_rows 0 (take i trees) in
    more
    ∙ ap (λ p. text ++ row_text default_writer (number_row (codes "tree") p numbers)) at
    ∙ ap (λ n. text ++ row_text default_writer (number_row (codes "tree") (decimal i) n)) is
    ∙ ap (λ t. t ++ row_text default_writer row) so_far
    ∙ sym (
    ap (λ (xs : List (List ℕ)). text_of (number_rows 0 xs)) (take_more trees i [] h)
    ∙ ap text_of (rows_last 0 (take i trees) (get_or trees i []) i (omega (arith, length-take i trees)))
    ∙ flat_map-append (row_text default_writer) rows (row ∷ [])
    ∙ ap (λ t. text_of rows ++ t) (append-nil (row_text default_writer row)))
