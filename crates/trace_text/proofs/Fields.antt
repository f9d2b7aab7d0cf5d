-- Rows of four fields.
use Rattle.std.proofs.Common.{◌≡◌, List, [], ◌∷◌, length, Some, arith, ℕ}
use Rattle.csv.specs.Records.{field_at}

-- four fields, one after another, are all of a row of four
pub all_of_four : (xs : List (List ℕ)) (a b c d : List ℕ) → length xs ≡ 4
    → Some a ≡ field_at xs 0 → Some b ≡ field_at xs 1 → Some c ≡ field_at xs 2 → Some d ≡ field_at xs 3
    → xs ≡ a ∷ b ∷ c ∷ d ∷ []
unfolding field_at
all_of_four (x ∷ y ∷ z ∷ w ∷ []) a b c d four p q r s = cc
all_of_four _ a b c d four p q r s = absurd (omega arith)
