-- Amounts that go up and down several times.
use Rattle.std.proofs.Common.{◌≡◌, ◌⊎◌, inl, inr, ⊎_elim, ℕ, ◌+◌, ◌<◌, Option, None, Some, refl, ap, sym, ◌∙◌, arith}
use Rattle.std.specs.Prelude.{nat_eq, if◌then◌else◌}
use Rattle.std.proofs.lemmas.Bool.{cases_eq}
use Rattle.std.proofs.lemmas.Bool.Decides.{nat_tests}
use Rattle.frame_model.specs.declared.view.Amount.{Amount}
use Rattle.frame_model.specs.declared.view.View.{View}
use Rattle.frame_model.specs.Key.{tree_of_child}
use Rattle.frame_model.specs.View.{counted, count_in, NoneBut}
use Rattle.frame_model.specs.Steps.Amounts.{more}
use Rattle.frame_model.proofs.Amounts.{more_else}

-- n frames more, and nothing is changed by none
pub raised : ℕ → ℕ → Option Amount → Option Amount
raised place n amount = if nat_eq n 0 then amount else more place n amount

-- so many frames of the child, in flight before, are charged and paid
abbrev pub HasReleasedSome : ℕ → ℕ → View → View → Type 0
HasReleasedSome child n v w = w ≡ record v {
  charged = raised child n v.charged;
  paid = raised (tree_of_child child) n v.paid;
  own = w.own;
  moves = w.moves;
  lost = w.lost;
}

pub raised_none : (c : ℕ) (a : Option Amount) → raised c 0 a ≡ a
unfolding raised
raised_none c a = refl

pub raised_some : (c n : ℕ) (a : Option Amount) → 0 < n → raised c n a ≡ more c n a
unfolding raised
raised_some c n a h = grind (arith, nat_tests)

none_or_some : (n : ℕ) → (n ≡ 0) ⊎ (0 < n)
none_or_some n = ⊎_elim (λ z. inl z) (λ ne. inr (omega arith)) (cases_eq n 0)

pub more_counted : (c m n : ℕ) → 0 < m → more c m (counted c n) ≡ counted c (n + m)
unfolding more counted
more_counted c m n h = grind (arith, nat_tests)

more_twice : (c m n : ℕ) (a : Option Amount) → 0 < m → more c m (more c n a) ≡ more c (n + m) a
unfolding more
more_twice c m n None h = more_counted c m n h
more_twice c m n (Some a) h = grind (arith, nat_tests, more_counted)

-- m frames more still
pub raised_more : (c m n : ℕ) (a : Option Amount) → 0 < m → more c m (raised c n a) ≡ raised c (n + m) a
raised_more c m n a h =
    ⊎_elim
    (λ z. ap (more c m) (ap (λ k. raised c k a) z ∙ raised_none c a) ∙ sym (raised_some c m a h) ∙ ap (λ k. raised c k a) (omega arith))
    (λ s. ap (more c m) (raised_some c n a s) ∙ more_twice c m n a h ∙ sym (raised_some c (n + m) a (omega arith)))
    (none_or_some n)

pub raised_none_but : (c n : ℕ) (a : Option Amount) → NoneBut c a → NoneBut c (raised c n a)
raised_none_but c n a none d ne =
    ⊎_elim
    (λ z. ap (count_in d) (ap (λ k. raised c k a) z ∙ raised_none c a) ∙ none d ne)
    (λ s. ap (count_in d) (raised_some c n a s) ∙ more_else c d n a ne none ∙ none d ne)
    (none_or_some n)
