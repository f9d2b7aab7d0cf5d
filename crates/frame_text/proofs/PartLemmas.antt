-- Rows of five fields, and how what records say of parts goes on with each of them.
use Rattle.std.proofs.Common.{◌≡◌, ◌≢◌, ◌+◌, ℕ, List, [], ◌∷◌, length, Some, None, Ok, Err, refl, arith}
use Rattle.std.proofs.lemmas.Bool.Decides.{nat_tests}
use Rattle.csv.specs.Records.{field_at}
use Rattle.frame_model.specs.declared.key.Key.{Key}
use Rattle.frame_text.specs.ImageText.{part_count, part_with, parts_from}

-- five fields, one after another, are all of a row of five
pub all_of_five : (xs : List (List ℕ)) (a b c d e : List ℕ) → length xs ≡ 5
    → Some a ≡ field_at xs 0 → Some b ≡ field_at xs 1 → Some c ≡ field_at xs 2 → Some d ≡ field_at xs 3
    → Some e ≡ field_at xs 4 → xs ≡ a ∷ b ∷ c ∷ d ∷ e ∷ []
unfolding field_at
all_of_five (x ∷ y ∷ z ∷ w ∷ v ∷ []) a b c d e five p q r s t = cc
all_of_five _ a b c d e five p q r s t = absurd (omega arith)

module _ (key : Key) (part : ℕ) (words : List ℕ) where
  -- a record that says the part
  pub parts_more : (row : List (List ℕ)) (rows : List (List (List ℕ))) (next : List ℕ)
      → part_with key part words row ≡ Some next
      → parts_from key part words (row ∷ rows) ≡ parts_from key (part + 1) next rows
  unfolding parts_from
  parts_more row rows next e = rw e refl

  -- a record that says something else
  pub parts_refused : (row : List (List ℕ)) (rows : List (List (List ℕ)))
      → part_with key part words row ≡ None → parts_from key part words (row ∷ rows) ≡ Err (part + 2)
  unfolding parts_from
  parts_refused row rows e = rw e refl

  -- all parts were said
  pub parts_all : part ≡ part_count key → parts_from key part words [] ≡ Ok words
  unfolding parts_from
  parts_all e = grind (arith, nat_tests)

  -- a part is missing
  pub parts_missing : part ≢ part_count key → parts_from key part words [] ≡ Err (part + 2)
  unfolding parts_from
  parts_missing ne = grind (arith, nat_tests)
