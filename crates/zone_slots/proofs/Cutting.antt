-- Ranges, cut at a zone one after another.
use Rattle.std.proofs.Common.{◌≡◌, ℕ, zero, suc, ◌+◌, ◌<◌, ◌≤◌, ◌⊎◌, inl, inr, List, [], ◌∷◌, ◌++◌, length, arith, ap, refl, subst, sym, ⊎_elim}
use Rattle.std.specs.Prelude.{min, max}
use Rattle.std.proofs.lemmas.Bool.{cases_lt}
use Rattle.std.proofs.lemmas.List.{get_or_append_left, get_or_at, length-append}
use Rattle.frame_model.specs.Key.{AreRanges}
use Rattle.zone_slots.specs.Layouts.{Stretch, stretch_at, end_of, LiesInStretch, LiesInOne, EndAtOrBelow, MayBeLaidOut}
use Rattle.zone_slots.specs.Cuts.{AreRangesApart, AreIn, IsPieceOf, Meet}
use Rattle.zone_slots.proofs.Laid.{in_none, laid_ascend}

-- the first range that ends behind a frame has a frame from there to before where it begins in front of that
pub meets : (ranges : List Stretch) (from end n : ℕ) → AreRangesApart ranges → EndAtOrBelow from ranges n
    → from < end → n < length ranges → (stretch_at ranges n).0 < end → Meet from end ranges
meets ranges from end n apart cut some within begins =
    let first = (stretch_at ranges n).0 in
    let own = apart.some n within in
    let behind = cut.behind n (omega arith) within in
    ⊎_elim (λ (h : from < first). (first, omega arith, begins, (n, within, (omega arith, omega (arith, own)))))
    (λ (h : first ≤ from). (from, omega arith, some, (n, within, (h, omega (arith, behind)))))
    (cases_lt from first)

-- a frame in front of the next zone and behind those before it lies in none
pub in_hole : (zones : List Stretch) (from x i : ℕ) → MayBeLaidOut zones
    → ((k : ℕ) → k < i → end_of (stretch_at zones k) ≤ from) → from ≤ x
    → (i < length zones → x < (stretch_at zones i).0) → ¬ LiesInOne x zones
in_hole zones from x i laid below behind begins =
    in_none zones from x i below behind (laid_ascend zones laid) begins

-- a frame lies in a range that was added, or in one of the others
lies_before : (ps : List Stretch) (p : Stretch) (x : ℕ) → LiesInOne x ps → LiesInOne x (ps ++ p ∷ [])
lies_before ps p x lies =
    let k = lies.0 in (
      k,
      omega (arith, length-append ps (p ∷ []), lies.1),
      subst (λ s. LiesInStretch x s) (sym (get_or_append_left ps (p ∷ []) (0, 0) k lies.1)) lies.2,
    )

lies_last : (ps : List Stretch) (p : Stretch) (x : ℕ) → LiesInStretch x p → LiesInOne x (ps ++ p ∷ [])
lies_last ps p x lies = (
  length ps,
  omega (arith, length-append ps (p ∷ [])),
  subst (λ s. LiesInStretch x s) (sym (get_or_at ps p [] (0, 0) (length ps) refl)) lies,
)

-- what holds of each but the last, and of the last
each_added : (P : Stretch → Type 0) (ps : List Stretch) (p : Stretch)
    → ((j : ℕ) → j < length ps → P (stretch_at ps j)) → P p
    → (j : ℕ) → j < length (ps ++ p ∷ []) → P (stretch_at (ps ++ p ∷ []) j)
each_added P ps p each last j within =
    ⊎_elim (λ (h : j < length ps). subst P (sym (get_or_append_left ps (p ∷ []) (0, 0) j h)) (each j h))
    (λ (h : length ps ≤ j).
    let same : length ps ≡ j = omega (arith, length-append ps (p ∷ [])) in
    subst P (sym (get_or_at ps p [] (0, 0) j same)) last)
    (cases_lt j (length ps))

lies_added : (ps : List Stretch) (p : Stretch) (x : ℕ) → LiesInOne x (ps ++ p ∷ [])
    → LiesInOne x ps ⊎ LiesInStretch x p
lies_added ps p x lies =
    each_added (λ s. LiesInStretch x s → LiesInOne x ps ⊎ LiesInStretch x p) ps p
    (λ j within at. inl (j, within, at)) (λ at. inr at) lies.0 lies.1 lies.2

-- a range behind all others may be added
add_range : (from end : ℕ) (ps : List Stretch) (p : Stretch) → AreRanges from end ps → from ≤ p.0
    → ((j : ℕ) → j < length ps → end_of (stretch_at ps j) ≤ p.0) → 1 ≤ p.1 → end_of p ≤ end
    → AreRanges from end (ps ++ p ∷ [])
unfolding AreRanges
add_range from end [] p all behind below some inside = (some, behind, inside, tt)
add_range from end (q ∷ qs) p all behind below some inside = (
  all.0,
  all.1,
  all.2,
  add_range (q.0 + q.1) end qs p all.3 (below zero (omega arith))
      (λ j within. below (suc j) (omega arith)) some inside,
)

no_ranges : (end : ℕ) (ps : List Stretch) → ps ≡ [] → AreRanges 0 end ps
unfolding AreRanges
no_ranges end ps none = subst (λ rs. AreRanges 0 end rs) (sym none) tt

-- the pieces of the first ranges in a zone
pub record AreCut (zone : Stretch) (ranges : List Stretch) (i : ℕ) (pieces : List Stretch) : Type 0 where
  pub count : length pieces ≤ i
  pub lawful : AreRanges 0 zone.1 pieces
  pub below : (k : ℕ) → i ≤ k → k < length ranges → (j : ℕ) → j < length pieces
      → zone.0 + end_of (stretch_at pieces j) ≤ (stretch_at ranges k).0
  pub only : (x : ℕ) → LiesInOne x pieces → LiesInOne (zone.0 + x) ranges
  pub all : (x k : ℕ) → x < zone.1 → k < i → LiesInStretch (zone.0 + x) (stretch_at ranges k) → LiesInOne x pieces

pub cut_none : (zone : Stretch) (ranges pieces : List Stretch) (n : ℕ) → pieces ≡ []
    → EndAtOrBelow zone.0 ranges n → AreCut zone ranges n pieces
cut_none zone ranges pieces n none cut =
    let empty : length pieces ≡ 0 = ap length none in
    record {
      count = omega (arith, empty);
      lawful = no_ranges zone.1 pieces none;
      below = λ k behind within j h. absurd (omega (arith, empty, h));
      only = λ x lies. absurd (omega (arith, empty, lies.1));
      all = λ x k inside before lies. absurd (omega (arith, cut.below k before, lies.1));
    }

pub cut_more : (zone : Stretch) (ranges pieces : List Stretch) (i : ℕ) (p : Stretch) → AreRangesApart ranges
    → i < length ranges → IsPieceOf zone (stretch_at ranges i) p → AreCut zone ranges i pieces
    → AreCut zone ranges (i + 1) (pieces ++ p ∷ [])
cut_more zone ranges pieces i p apart within piece cut =
    let r : Stretch = stretch_at ranges i in
    let begins : zone.0 + p.0 ≡ max zone.0 r.0 = piece.begins in
    let ends : zone.0 + end_of p ≡ min (end_of zone) (end_of r) = piece.ends in
    record {
      count = omega (arith, cut.count, length-append pieces (p ∷ []));
      lawful = add_range 0 zone.1 pieces p cut.lawful (omega arith)
          (λ j h. omega (arith, cut.below i (omega arith) within j h, begins)) piece.some (omega (arith, ends));
      below = λ k behind inside. each_added (λ s. zone.0 + end_of s ≤ (stretch_at ranges k).0) pieces p
          (cut.below k (omega arith) inside)
          (omega (arith, ends, apart.ascend i k (omega arith) inside));
      only = λ x lies. ⊎_elim (cut.only x)
          (λ (at : LiesInStretch x p). (i, within, (omega (arith, begins, at.0), omega (arith, ends, at.1))))
          (lies_added pieces p x lies);
      all = λ x k inside before lies.
          ⊎_elim (λ (h : k < i). lies_before pieces p x (cut.all x k inside h lies))
          (λ (h : i ≤ k). let same : k ≡ i = omega arith in
          let here : LiesInStretch (zone.0 + x) r = subst (λ n. LiesInStretch (zone.0 + x) (stretch_at ranges n)) same lies in
          lies_last pieces p x (omega (arith, begins, here.0), omega (arith, ends, here.1, inside)))
          (cases_lt k i);
    }

-- where the ranges that are left begin behind the zone, these are all of its pieces
pub cut_all : (zone : Stretch) (ranges pieces : List Stretch) (i : ℕ) → AreCut zone ranges i pieces
    → ((k : ℕ) → i ≤ k → k < length ranges → end_of zone ≤ (stretch_at ranges k).0) → AreIn zone ranges pieces
cut_all zone ranges pieces i cut behind x inside = (
  cut.only x,
  λ lies. ⊎_elim (λ (h : lies.0 < i). cut.all x lies.0 inside h lies.2)
      (λ (h : i ≤ lies.0). absurd (omega (arith, behind lies.0 h lies.1, lies.2.0, inside)))
      (cases_lt lies.0 i),
)

-- ranges behind one that begins behind the zone do so too
pub behind_all : (zone : Stretch) (ranges : List Stretch) (i : ℕ) → AreRangesApart ranges
    → end_of zone ≤ (stretch_at ranges i).0
    → (k : ℕ) → i ≤ k → k < length ranges → end_of zone ≤ (stretch_at ranges k).0
behind_all zone ranges i apart begins k at within =
    ⊎_elim (λ (h : i < k). omega (arith, apart.ascend i k h within, begins))
    (λ (h : k ≤ i). let same : i ≡ k = omega arith in
    subst (λ n. end_of zone ≤ (stretch_at ranges n).0) same begins)
    (cases_lt i k)
