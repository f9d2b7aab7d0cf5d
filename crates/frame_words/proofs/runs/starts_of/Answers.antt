-- The table is right at each of its 64 bits, order by order.
use Rattle.std.proofs.Common.{◌≡◌, ◌↔◌, List, ⊎_elim, subst, sym, ℕ, zero, suc, ◌%◌, ◌^◌, ◌<◌, ◌≤◌, Bool, true, ◌&&◌, nat_eq, cond, refl, [], ◌∷◌, get_or, arith}
use Rattle.std.specs.Int.{bit_at}
use Rattle.std.proofs.lemmas.Bool.{and_parts, cases_eq}
use Rattle.std.proofs.lemmas.Bool.Decides.{nat_tests}
use Rattle.frame_words.proofs.RunLemmas.{Starts}
use Rattle.frame_words.proofs.runs.starts_of.Goals as goal

-- the test passes at each number below n
abbrev all_below : (ℕ → Bool) → ℕ → Bool
all_below p zero = true
all_below p (suc n) = p n && all_below p n

every : (p : ℕ → Bool) (n : ℕ) → all_below p n ≡ true → (i : ℕ) → i < n → p i ≡ true
every p zero all i below = absurd (omega arith)
every p (suc n) all i below =
    ⊎_elim
    (λ (last : i ≡ n). subst (λ j. p j ≡ true) (sym last) ((and_parts (p n) (all_below p n) all).0))
    (λ (other : i ≡ n → ⊥). every p n ((and_parts (p n) (all_below p n) all).1) i (omega arith))
    (cases_eq i n)

-- the bit is set exactly at multiples
abbrev is_right : ℕ → ℕ → ℕ → Bool
is_right order starts i = nat_eq (bit_at starts i) (cond (nat_eq (i % 2 ^ order) 0) 1 0)

reads : (bit part : ℕ) → nat_eq bit (cond (nat_eq part 0) 1 0) ≡ true → (bit ≡ 1) ↔ (part ≡ 0)
reads bit part test = (λ set. grind (arith, nat_tests), λ multiple. grind (arith, nat_tests))

right : (order starts : ℕ) → all_below (is_right order starts) 64 ≡ true → Starts order starts
right order starts all i below = reads (bit_at starts i) (i % 2 ^ order) (every (is_right order starts) 64 all i below)

abbrev table : List ℕ
table =
    18446744073709551615 ∷ 6148914691236517205 ∷ 1229782938247303441 ∷ 72340172838076673
    ∷ 281479271743489 ∷ 4294967297 ∷ 1 ∷ []

row : (order : ℕ) → order ≤ 6
    → Starts order (get_or table order 0)
row zero few = right 0 18446744073709551615 refl
row (suc zero) few = right 1 6148914691236517205 refl
row (suc (suc zero)) few = right 2 1229782938247303441 refl
row (suc (suc (suc zero))) few = right 3 72340172838076673 refl
row (suc (suc (suc (suc zero)))) few = right 4 281479271743489 refl
row (suc (suc (suc (suc (suc zero))))) few = right 5 4294967297 refl
row (suc (suc (suc (suc (suc (suc zero)))))) few = right 6 1 refl
row (suc (suc (suc (suc (suc (suc (suc order))))))) few = absurd (omega arith)

pub returns : goal.returns
returns c = row c.args.order c.requires
