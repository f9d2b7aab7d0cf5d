-- Amounts, reservations and lists of numbers, as counts.
use Rattle.std.proofs.Common.{◌≡◌, ◌≢◌, ◌⊎◌, inl, inr, ⊎_elim, ℕ, ◌+◌, ◌-◌, ◌<◌, ◌≤◌, List, [], ◌∷◌, Option, None, Some, refl, ap, sym, ◌∙◌}
use Rattle.std.proofs.Common.{arith}
use Rattle.std.specs.Prelude.{nat_eq, if◌then◌else◌, Bool, true, false}
use Rattle.std.proofs.lemmas.Bool.{cases_eq}
use Rattle.std.proofs.lemmas.Bool.Decides.{nat_tests}
use Rattle.frame_words.specs.Words.{rest_in, local_word}
use Rattle.frame_words.proofs.WordLemmas.{rest_in-local_word, rest_in-local_none}
use Rattle.frame_model.specs.declared.key.Key.{Key}
use Rattle.frame_model.specs.declared.view.Amount.{Amount}
use Rattle.frame_model.specs.Words.{count_on, is_on, IsRest}
use Rattle.frame_model.specs.View.{counted, count_in, IsAmount, NoneBut, names, is_at}
use Rattle.std.specs.List.{list_any}
use Rattle.frame_model.specs.Steps.Amounts.{put_in, more, less, rest_amount, rest_tree}

pub count_none : (c : ℕ) → count_in c None ≡ 0
unfolding count_in
count_none c = refl

pub count_here : (c n : ℕ) → count_in c (counted c n) ≡ n
unfolding count_in counted
count_here c n = grind (arith, nat_tests)

pub count_else : (c d n : ℕ) → d ≢ c → count_in d (counted c n) ≡ 0
unfolding count_in counted
count_else c d n ne = grind (arith, nat_tests)

one_of : (c d : ℕ) (a : Amount) → 0 < count_in c (Some a) → d ≢ c → count_in d (Some a) ≡ 0
unfolding count_in
one_of c d a h ne = grind (arith, nat_tests)

-- a count is in one place
pub one_place : (c : ℕ) (a : Option Amount) → 0 < count_in c a → NoneBut c a
one_place c None h d ne = count_none d
one_place c (Some a) h d ne = one_of c d a h ne

agrees : (c n : ℕ) (a : Amount) → a.place ≡ c → count_in c (more c n (Some a)) ≡ count_in c (Some a) + n
unfolding count_in more counted
agrees c n a e = grind (arith, nat_tests)

apart_from : (c : ℕ) (a : Amount) → a.place ≢ c → NoneBut c (Some a) → a.count ≡ 0
unfolding count_in
apart_from c a ne none = let z = none a.place ne in grind (arith, nat_tests)

cases_place : (c n : ℕ) (a : Amount) → 0 < a.count → NoneBut c (Some a) → (a.place ≡ c) ⊎ (a.place ≢ c)
    → count_in c (more c n (Some a)) ≡ count_in c (Some a) + n
cases_place c n a some none (inl e) = agrees c n a e
cases_place c n a some none (inr ne) = absurd (omega (arith, apart_from c a ne none))

more_none : (c n : ℕ) → more c n None ≡ counted c n
unfolding more
more_none c n = refl

pub more_here : (c n : ℕ) (a : Option Amount) → IsAmount a → NoneBut c a
    → count_in c (more c n a) ≡ count_in c a + n
more_here c n None some none = omega (arith, ap (count_in c) (more_none c n), count_here c n, count_none c)
more_here c n (Some a) some none = cases_place c n a some none (cases_eq a.place c)

more_some_else : (c d n : ℕ) (a : Amount) → d ≢ c → count_in d (Some a) ≡ 0
    → count_in d (more c n (Some a)) ≡ 0
unfolding count_in more counted
more_some_else c d n a ne z = grind (arith, nat_tests)

pub more_else : (c d n : ℕ) (a : Option Amount) → d ≢ c → NoneBut c a → count_in d (more c n a) ≡ count_in d a
more_else c d n None ne none = ap (count_in d) (more_none c n) ∙ count_else c d n ne ∙ sym (count_none d)
more_else c d n (Some a) ne none = more_some_else c d n a ne (none d ne) ∙ sym (none d ne)

less_some_here : (c n : ℕ) (a : Amount) → count_in c (less c n (Some a)) ≡ count_in c (Some a) - n
unfolding count_in less counted
less_some_here c n a = grind (arith, nat_tests)

less_some_else : (c d n : ℕ) (a : Amount) → d ≢ c → count_in d (less c n (Some a)) ≡ count_in d (Some a)
unfolding count_in less counted
less_some_else c d n a ne = grind (arith, nat_tests)

less_none : (c n : ℕ) → less c n None ≡ None
unfolding less
less_none c n = refl

pub less_here : (c n : ℕ) (a : Option Amount) → count_in c (less c n a) ≡ count_in c a - n
less_here c n None = omega (arith, ap (count_in c) (less_none c n), count_none c)
less_here c n (Some a) = less_some_here c n a

pub less_else : (c d n : ℕ) (a : Option Amount) → d ≢ c → count_in d (less c n a) ≡ count_in d a
less_else c d n None ne = ap (count_in d) (less_none c n)
less_else c d n (Some a) ne = less_some_else c d n a ne

pub less-le : (c d n : ℕ) (a : Option Amount) → count_in d (less c n a) ≤ count_in d a
less-le c d n a = ⊎_elim (λ e. omega (
  arith,
  less_here c n a,
  ap (λ i. count_in i a) e,
  ap (λ i. count_in i (less c n a)) e,
)) (λ ne. omega (arith, less_else c d n a ne)) (cases_eq d c)

stands : (b : Bool) (c n : ℕ) → (b ≡ false → 0 < n)
    → IsAmount (if b then None else Some (record { place = c; count = n }))
stands true c n h = tt
stands false c n h = h refl

above_zero : (n : ℕ) → nat_eq n 0 ≡ false → 0 < n
above_zero n e = grind (arith, nat_tests)

pub amount_counted : (c n : ℕ) → IsAmount (counted c n)
unfolding counted
amount_counted c n = stands (nat_eq n 0) c n (above_zero n)

by_place : (b : Bool) (x y : Option Amount) → IsAmount x → IsAmount y → IsAmount (if b then x else y)
by_place true x y p q = p
by_place false x y p q = q

pub amount_more : (c n : ℕ) (a : Option Amount) → IsAmount a → IsAmount (more c n a)
unfolding more
amount_more c n None some = amount_counted c n
amount_more c n (Some a) some = by_place (nat_eq a.place c) (counted c (a.count + n)) (Some a) (amount_counted c (a.count + n)) some

pub amount_less : (c n : ℕ) (a : Option Amount) → IsAmount a → IsAmount (less c n a)
unfolding less
amount_less c n None some = tt
amount_less c n (Some a) some = by_place (nat_eq a.place c) (counted c (a.count - n)) (Some a) (amount_counted c (a.count - n)) some

pub amount_rest : (r : Option (ℕ × ℕ)) → IsAmount (rest_amount r)
unfolding rest_amount
amount_rest None = tt
amount_rest (Some r) = amount_counted r.0 r.1

-- Reservations.

pub count_on_here : (t n : ℕ) → count_on t (Some (t, n)) ≡ n
unfolding count_on
count_on_here t n = grind (arith, nat_tests)

pub count_on_else : (t u n : ℕ) → u ≢ t → count_on u (Some (t, n)) ≡ 0
unfolding count_on
count_on_else t u n ne = grind (arith, nat_tests)

pub count_on_none : (t : ℕ) → count_on t None ≡ 0
unfolding count_on
count_on_none t = refl

pub is_on_here : (t n : ℕ) → is_on t (Some (t, n)) ≡ 1
unfolding is_on
is_on_here t n = grind (arith, nat_tests)

pub is_on_else : (t u n : ℕ) → u ≢ t → is_on u (Some (t, n)) ≡ 0
unfolding is_on
is_on_else t u n ne = grind (arith, nat_tests)

pub is_on_none : (t : ℕ) → is_on t None ≡ 0
unfolding is_on
is_on_none t = refl

-- whether a reservation is on a tree does not look at its count
pub is_on_same : (t u m n : ℕ) → is_on u (Some (t, m)) ≡ is_on u (Some (t, n))
unfolding is_on
is_on_same t u m n = refl

pub rest_is_count : (t : ℕ) (r : Option (ℕ × ℕ)) → count_in t (rest_amount r) ≡ count_on t r
unfolding rest_amount
rest_is_count t None = count_none t ∙ sym (count_on_none t)
rest_is_count t (Some r) = by (cases_eq t r.0)
  where
    by : (t ≡ r.0) ⊎ (t ≢ r.0) → count_in t (counted r.0 r.1) ≡ count_on t (Some r)
    by (inl e) = ap (λ i. count_in i (counted r.0 r.1)) e ∙ count_here r.0 r.1
        ∙ sym (ap (λ i. count_on i (Some r)) e ∙ count_on_here r.0 r.1)
    by (inr ne) = count_else r.0 t r.1 ne ∙ sym (count_on_else r.0 t r.1 ne)

pub rest_is_on : (t : ℕ) (r : Option (ℕ × ℕ)) → is_at t (rest_tree r) ≡ is_on t r
unfolding is_at is_on
rest_is_on t None = refl
rest_is_on t (Some r) = refl

pub is_at_here : (n : ℕ) → is_at n (Some n) ≡ 1
unfolding is_at
is_at_here n = grind (arith, nat_tests)

pub is_at_else : (n m : ℕ) → m ≢ n → is_at m (Some n) ≡ 0
unfolding is_at
is_at_else n m ne = grind (arith, nat_tests)

pub is_at_none : (n : ℕ) → is_at n None ≡ 0
unfolding is_at
is_at_none n = refl

-- a reservation that is read back from its word
pub rest_back : (key : Key) (put : Option (ℕ × ℕ)) → IsRest key put → rest_in (local_word put) ≡ put
rest_back key None h = rest_in-local_none
rest_back key (Some r) h = rest_in-local_word r.0 r.1 (omega (arith, h.1))

-- Lists of numbers.

pub names-le : (n : ℕ) (ms : List ℕ) → names n ms ≤ 1
unfolding names
names-le n [] = omega arith
names-le n (m ∷ ms) = one_or (nat_eq m n) (names n ms) (names-le n ms)
  where
    one_or : (b : Bool) (x : ℕ) → x ≤ 1 → (if b then 1 else x) ≤ 1
    one_or true x h = omega arith
    one_or false x h = h

pub names_here : (n : ℕ) (ms : List ℕ) → names n (n ∷ ms) ≡ 1
unfolding names
names_here n ms = grind (arith, nat_tests)

pub names_else : (n m : ℕ) (ms : List ℕ) → n ≢ m → names n (m ∷ ms) ≡ names n ms
unfolding names
names_else n m ms ne = grind (arith, nat_tests)

pub names_none : (n : ℕ) → names n [] ≡ 0
unfolding names
names_none n = refl

pub names_any : (n : ℕ) (ns : List ℕ) → list_any (λ m. nat_eq m n) ns ≡ true → names n ns ≡ 1
unfolding names
names_any n [] e = absurd (cc)
names_any n (m ∷ ns) e = by (nat_eq m n) refl e (names_any n ns)
  where
    by : (b : Bool) → nat_eq m n ≡ b → list_any (λ k. nat_eq k n) (m ∷ ns) ≡ true
        → (list_any (λ k. nat_eq k n) ns ≡ true → names n ns ≡ 1) → (if nat_eq m n then 1 else names n ns) ≡ 1
    by true h q f = rw h refl
    by false h q f = rw h (f (rw h at q))

-- what the list names once the number is among its own
pub names_put : (n k : ℕ) (ns : List ℕ) → names n (put_in k ns) ≡ names n (k ∷ ns)
names_put n k ns = by (list_any (λ m. nat_eq m k) ns) refl
  where
    by : (b : Bool) → list_any (λ m. nat_eq m k) ns ≡ b → names n (put_in k ns) ≡ names n (k ∷ ns)
    by true h = rw h (⊎_elim
        (λ e. ap (λ j. names j ns) e ∙ names_any k ns h ∙ sym (names_here k ns) ∙ ap (λ j. names j (k ∷ ns)) (sym e))
        (λ ne. sym (names_else n k ns ne)) (cases_eq n k))
    by false h = rw h refl
