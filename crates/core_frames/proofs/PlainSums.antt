-- Sums over ranges of numbers, and which frames a block covers.
use Rattle.std.proofs.Common.{◌≡◌, ⊎_elim, ℕ, zero, suc, ◌+◌, ◌-◌, ◌*◌, ◌^◌, ◌<◌, ◌≤◌, min, max}
use Rattle.std.proofs.Common.{refl, ap, arith}
use Rattle.std.specs.List.{sum_by, range_with_len}
use Rattle.std.proofs.lemmas.Bool.{cases_lt}
use Rattle.std.proofs.lemmas.Bool.Decides.{nat_tests}
use Rattle.std.proofs.lemmas.List.Sums.{sum_by-cons}
use Rattle.frame_model.specs.declared.block.FrameBlock.{FrameBlock}
use Rattle.frame_model.specs.Block.{covers}

-- the first term and the others
pub range_cons : (f : ℕ → ℕ) (a n : ℕ) → sum_by f (range_with_len a (suc n)) ≡ f a + sum_by f (range_with_len (a + 1) n)
range_cons f a n = sum_by-cons f a (range_with_len (a + 1) n)

pub range_same : (f h : ℕ → ℕ) (a n : ℕ) → ((d : ℕ) → a ≤ d → d < a + n → h d ≡ f d)
    → sum_by h (range_with_len a n) ≡ sum_by f (range_with_len a n)
range_same f h a zero all = refl
range_same f h a (suc n) all =
    omega (
      arith,
      range_cons h a n,
      range_cons f a n,
      all a (omega arith) (omega arith),
      range_same f h (a + 1) n
          (λ d l r. all d (omega arith) (omega arith)),
    )

-- a sum of sums
pub range_plus : (f g h : ℕ → ℕ) (a n : ℕ) → ((d : ℕ) → a ≤ d → d < a + n → h d ≡ f d + g d)
    → sum_by h (range_with_len a n) ≡ sum_by f (range_with_len a n) + sum_by g (range_with_len a n)
range_plus f g h a zero all = refl
range_plus f g h a (suc n) all =
    omega (
      arith,
      range_cons f a n,
      range_cons g a n,
      range_cons h a n,
      all a (omega arith) (omega arith),
      range_plus
          f g h (a + 1) n (λ d l r. all d (omega arith) (omega arith)),
    )

-- a sum of terms that are at most m
pub range_most : (f : ℕ → ℕ) (m a n : ℕ) → ((d : ℕ) → a ≤ d → d < a + n → f d ≤ m) → sum_by f (range_with_len a n) ≤ m * n
range_most f m a zero all = omega arith
range_most f m a (suc n) all =
    grind (
      arith,
      range_cons f a n,
      all a (omega arith) (omega arith),
      range_most f m (a + 1) n
          (λ d l r. all d (omega arith) (omega arith)),
    )

-- a range in two parts
pub range_parts : (f : ℕ → ℕ) (a n m : ℕ)
    → sum_by f (range_with_len a (n + m)) ≡ sum_by f (range_with_len a n) + sum_by f (range_with_len (a + n) m)
range_parts f a zero m =
    let e : zero + m ≡ m = omega arith in
    let s : a + zero ≡ a = omega arith in
    omega (arith, ap (λ k. sum_by f (range_with_len a k)) e, ap (λ k. sum_by f (range_with_len k m)) s)
range_parts f a (suc n) m =
    let e : suc n + m ≡ suc (n + m) = omega arith in
    let s : a + 1 + n ≡ a + suc n = omega arith in
    omega (
      arith,
      ap (λ k. sum_by f (range_with_len a k)) e,
      ap (λ k. sum_by f (range_with_len k m)) s,
      range_cons f a (n + m),
      range_cons f a n,
      range_parts f (a + 1) n m,
    )

pub covers_in : (b : FrameBlock) (x : ℕ) → b.frame ≤ x → x < b.frame + 2 ^ b.order → covers b x ≡ 1
unfolding covers
covers_in b x l h = grind (arith, nat_tests)

pub covers_below : (b : FrameBlock) (x : ℕ) → x < b.frame → covers b x ≡ 0
unfolding covers
covers_below b x h = grind (arith, nat_tests)

pub covers_above : (b : FrameBlock) (x : ℕ) → b.frame + 2 ^ b.order ≤ x → covers b x ≡ 0
unfolding covers
covers_above b x h = grind (arith, nat_tests)

-- how many frames of a range lie in a block
pub covered : (b : FrameBlock) (a n : ℕ) → sum_by (covers b) (range_with_len a n) ≡ min (a + n) (b.frame + 2 ^ b.order) - max a b.frame
covered b a zero = omega arith
covered b a (suc n) =
    ⊎_elim
    (λ below. omega (arith, range_cons (covers b) a n, covered b (a + 1) n, covers_below b a below))
    (λ l.
    ⊎_elim
    (λ inside. omega (arith, range_cons (covers b) a n, covered b (a + 1) n, covers_in b a l inside))
    (λ above. omega (arith, range_cons (covers b) a n, covered b (a + 1) n, covers_above b a above))
    (cases_lt a (b.frame + 2 ^ b.order)))
    (cases_lt a b.frame)
