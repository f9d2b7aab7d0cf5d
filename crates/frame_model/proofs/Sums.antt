-- Sums over a list when one of its elements changes, and over a range when one of its terms does.
use Rattle.std.proofs.Common.{◌≡◌, ◌≢◌, ⊎_elim, ℕ, zero, suc, ◌+◌, ◌<◌, ◌≤◌, List, [], ◌∷◌, length, get_or, set, subst, refl, ap, sym, ◌∙◌}
use Rattle.std.proofs.Common.{arith}
use Rattle.std.specs.List.{sum_by, All, range_with_len}
use Rattle.std.proofs.lemmas.List.Sums.{sum_by-cons}
use Rattle.std.proofs.lemmas.List.Elements.{All-head, All-tail}
use Rattle.std.proofs.lemmas.Bool.{cases_eq}
use mathlib.Core.Option.{some, some-injective, some-ne-none}
use lib.ListN.{get_elem?}

module _ {X : Type 0} where
  pub sum_set : (f : X → ℕ) (xs : List X) (i : ℕ) (v w : X) → get_elem? xs i ≡ some v
      → sum_by f (set xs i w) + f v ≡ sum_by f xs + f w
  sum_set f [] i v w e = absurd (some-ne-none v (sym e))
  sum_set f (x ∷ xs) zero v w e = let s : f x ≡ f v = ap f (some-injective x v e) in omega (arith, sum_by-cons f w xs, sum_by-cons f x xs)
  sum_set f (x ∷ xs) (suc i) v w e = omega (
    arith,
    sum_by-cons f x (set xs i w),
    sum_by-cons f x xs,
    sum_set f xs i v w e,
  )

  pub at-le-sum : (f : X → ℕ) (xs : List X) (i : ℕ) (v : X) → get_elem? xs i ≡ some v → f v ≤ sum_by f xs
  at-le-sum f [] i v e = absurd (some-ne-none v (sym e))
  at-le-sum f (x ∷ xs) zero v e = let s : f x ≡ f v = ap f (some-injective x v e) in omega (arith, sum_by-cons f x xs)
  at-le-sum f (x ∷ xs) (suc i) v e = omega (arith, sum_by-cons f x xs, at-le-sum f xs i v e)

  pub at_here : (xs : List X) (i : ℕ) (v d : X) → get_elem? xs i ≡ some v
      → (i < length xs) × (get_or xs i d ≡ v)
  at_here [] i v d e = absurd (some-ne-none v (sym e))
  at_here (x ∷ xs) zero v d e = (omega arith, some-injective x v e)
  at_here (x ∷ xs) (suc i) v d e = let t = at_here xs i v d e in (omega arith, t.1)

  pub All-at : (P : X → Type 0) (xs : List X) (i : ℕ) (v : X) → get_elem? xs i ≡ some v → All P xs → P v
  All-at P xs i v e all = let t = at_here xs i v v e in subst P t.1 (all i v t.0)

  -- where each element's first count is at most its second
  abbrev pub Below : (X → ℕ) → (X → ℕ) → X → Type 0
  Below f g x = f x ≤ g x

  pub sum_below : (f g : X → ℕ) (xs : List X) → All (Below f g) xs → sum_by f xs ≤ sum_by g xs
  sum_below f g [] all = omega arith
  sum_below f g (x ∷ xs) all = omega (
    arith,
    sum_by-cons f x xs,
    sum_by-cons g x xs,
    All-head (Below f g) x xs all,
    sum_below f g xs (All-tail (Below f g) x xs all),
  )

  -- the same without one element
  pub sum_below_but : (f g : X → ℕ) (xs : List X) (i : ℕ) (v : X) → get_elem? xs i ≡ some v
      → All (Below f g) xs → sum_by f xs + g v ≤ sum_by g xs + f v
  sum_below_but f g [] i v e all = absurd (some-ne-none v (sym e))
  sum_below_but f g (x ∷ xs) zero v e all =
      let same : x ≡ v = some-injective x v e in
      omega (
        arith,
        sum_by-cons f x xs,
        sum_by-cons g x xs,
        ap f same,
        ap g same,
        sum_below f g xs (All-tail (Below f g) x xs all),
      )
  sum_below_but f g (x ∷ xs) (suc i) v e all =
      omega (
        arith,
        sum_by-cons f x xs,
        sum_by-cons g x xs,
        All-head (Below f g) x xs all,
        sum_below_but f g xs i v e (All-tail (Below f g) x xs all),
      )

pub sum_plus : {X : Type 0} (f g : X → ℕ) (xs : List X)
    → sum_by (λ x. f x + g x) xs ≡ sum_by f xs + sum_by g xs
sum_plus f g [] = omega arith
sum_plus f g (x ∷ xs) = omega (
  arith,
  sum_by-cons (λ y. f y + g y) x xs,
  sum_by-cons f x xs,
  sum_by-cons g x xs,
  sum_plus f g xs,
)

pub range_same : (f h : ℕ → ℕ) (a n : ℕ) → ((d : ℕ) → a ≤ d → d < a + n → h d ≡ f d)
    → sum_by h (range_with_len a n) ≡ sum_by f (range_with_len a n)
range_same f h a zero all = refl
range_same f h a (suc n) all =
    omega (
      arith,
      sum_by-cons h a (range_with_len (a + 1) n),
      sum_by-cons f a (range_with_len (a + 1) n),
      all a (omega arith) (omega arith),
      range_same f h (a + 1) n (λ d l r. all d (omega arith) (omega arith)),
    )

-- one term of a range changes
pub range_but : (f h : ℕ → ℕ) (a n c : ℕ) → a ≤ c → c < a + n
    → ((d : ℕ) → a ≤ d → d < a + n → d ≢ c → h d ≡ f d)
    → sum_by h (range_with_len a n) + f c ≡ sum_by f (range_with_len a n) + h c
range_but f h a zero c l r all = absurd (omega arith)
range_but f h a (suc n) c l r all =
    ⊎_elim
    (λ e. omega (
      arith,
      sum_by-cons h a (range_with_len (a + 1) n),
      sum_by-cons f a (range_with_len (a + 1) n),
      ap f e,
      ap h e,
      range_same f h (a + 1) n (λ d low high. all d (omega arith) (omega arith) (λ s. omega arith)),
    ))
    (λ ne. omega (
      arith,
      sum_by-cons h a (range_with_len (a + 1) n),
      sum_by-cons f a (range_with_len (a + 1) n),
      all a (omega arith) (omega arith) ne,
      range_but f h (a + 1) n c (omega arith) (omega arith) (λ d low high. all d (omega arith) (omega arith)),
    ))
    (cases_eq a c)

-- a term of a range is at most the sum
pub range_at : (f : ℕ → ℕ) (a n c : ℕ) → a ≤ c → c < a + n → f c ≤ sum_by f (range_with_len a n)
range_at f a zero c l r = absurd (omega arith)
range_at f a (suc n) c l r =
    ⊎_elim
    (λ e. omega (arith, sum_by-cons f a (range_with_len (a + 1) n), ap f e))
    (λ ne. omega (arith, sum_by-cons f a (range_with_len (a + 1) n), range_at f (a + 1) n c (omega arith) (omega arith)))
    (cases_eq a c)

-- the sum over one number more
pub range_more : (f : ℕ → ℕ) (a n : ℕ)
    → sum_by f (range_with_len a (n + 1)) ≡ sum_by f (range_with_len a n) + f (a + n)
range_more f a zero = omega (arith, sum_by-cons f a [], ap f (plus_none a))
  where
    plus_none : (b : ℕ) → b + 0 ≡ b
    plus_none b = omega arith
range_more f a (suc n) =
    let first : sum_by f (range_with_len a (suc n + 1)) ≡ f a + sum_by f (range_with_len (a + 1) (n + 1)) =
    ap (λ m. sum_by f (range_with_len a m)) (more n) ∙ sum_by-cons f a (range_with_len (a + 1) (n + 1)) in
    let place : a + 1 + n ≡ a + suc n = omega arith in
    omega (
      arith,
      first,
      sum_by-cons f a (range_with_len (a + 1) n),
      range_more f (a + 1) n,
      ap f place,
    )
  where
    more : (m : ℕ) → suc m + 1 ≡ suc (m + 1)
    more m = omega arith
