-- Zones that may be laid out, one after another.
use Rattle.std.proofs.Common.{◌≡◌, ℕ, ◌+◌, ◌-◌, ◌*◌, ◌<◌, ◌≤◌, List, length, arith, subst, ⊎_elim}
use Rattle.std.specs.Int.{div_ceil}
use Rattle.std.proofs.lemmas.Bool.{cases_lt}
use Rattle.zone_slots.specs.Layouts.{Stretch, stretch_at, end_of, end_of_children, LiesInStretch, LiesInOne}
use Rattle.frame_slots.specs.Numbers.{child_count_of}
use Rattle.zone_slots.specs.Layouts.{MayBeLaidOut, LieInOrder}

-- the children of so many frames, as they are counted
pub children_counted : (n : ℕ) → div_ceil n 512 ≡ child_count_of n
children_counted n = omega arith

-- the frames of a zone lie in its children
end_within : (z : Stretch) → end_of z ≤ end_of_children z
end_within z = omega arith

pub laid_ascend : (zones : List Stretch) → MayBeLaidOut zones → LieInOrder zones
laid_ascend zones laid j k less within =
    omega (arith, laid.apart j k less within, end_within (stretch_at zones j))

-- a frame lies in none of those that end at or below another one in front of it
pub not_below : (stretches : List Stretch) (from x n k : ℕ)
    → ((i : ℕ) → i < n → end_of (stretch_at stretches i) ≤ from) → from ≤ x
    → LiesInStretch x (stretch_at stretches k) → n ≤ k
not_below stretches from x n k below behind lies =
    ⊎_elim (λ (h : k < n). absurd (omega (arith, below k h, lies.1))) (λ (h : n ≤ k). h) (cases_lt k n)

-- where the next one begins behind it, or there is none, the frame lies in none
pub in_none : (stretches : List Stretch) (from x n : ℕ)
    → ((i : ℕ) → i < n → end_of (stretch_at stretches i) ≤ from) → from ≤ x → LieInOrder stretches
    → (n < length stretches → x < (stretch_at stretches n).0) → ¬ LiesInOne x stretches
in_none stretches from x n below behind up begins lies =
    let k = lies.0 in
    let within : k < length stretches = lies.1 in
    let at : n ≤ k = not_below stretches from x n k below behind lies.2 in
    ⊎_elim (λ (h : n < k). omega (arith, up n k h within, begins (omega arith), lies.2.0))
    (λ (h : k ≤ n). let same : k ≡ n = omega arith in
    omega (arith, begins (omega arith), subst (λ i. (stretch_at stretches i).0 ≤ x) same lies.2.0))
    (cases_lt n k)

-- what holds of each pair below a number and of each below it with it, holds of each pair below the next
pub pairs_more : (P : ℕ → ℕ → Type 0) (i : ℕ) → ((y z : ℕ) → y < z → z < i → P y z) → ((y : ℕ) → y < i → P y i)
    → (y z : ℕ) → y < z → z < i + 1 → P y z
pairs_more P i below here y z less within =
    ⊎_elim (λ (h : z < i). below y z less h)
    (λ (h : i ≤ z). let same : i ≡ z = omega arith in
    subst (λ n. P y n) same (here y (omega arith)))
    (cases_lt z i)

-- the frame past the last child of the zone that was looked at last
pub ends_last : (zones : List Stretch) (i first counted n : ℕ) → first ≡ (stretch_at zones i).0
    → n ≡ div_ceil (stretch_at zones i).1 512 → counted ≡ n * 512
    → first + counted ≡ end_of_children (stretch_at zones (i + 1 - 1))
ends_last zones i first counted n at children frames =
    let same : i ≡ i + 1 - 1 = omega arith in
    subst (λ k. first + counted ≡ end_of_children (stretch_at zones k)) same
    (omega (arith, at, children, frames, children_counted (stretch_at zones i).1))

-- each zone up to one ends at or below the end of that one
pub below_next : (zones : List Stretch) (i end : ℕ) → MayBeLaidOut zones → i < length zones
    → end ≡ end_of (stretch_at zones i) → (k : ℕ) → k < i + 1 → end_of (stretch_at zones k) ≤ end
below_next zones i end laid within is k less =
    ⊎_elim (λ (h : k < i). omega (arith, laid_ascend zones laid k i h within, is))
    (λ (h : i ≤ k). let same : i ≡ k = omega arith in
    subst (λ n. end_of (stretch_at zones n) ≤ end) same (omega (arith, is)))
    (cases_lt k i)
