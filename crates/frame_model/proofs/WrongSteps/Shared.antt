-- What the views count together once a seat has another view.
use Rattle.std.proofs.Common.{◌≡◌, ◌≢◌, ⊎_elim, ℕ, ◌+◌, ◌/◌, ◌≤◌, List, [], ◌∷◌, ◌++◌, set, ap, sym, ◌∙◌, arith}
use Rattle.std.proofs.lemmas.List.Sums.{sum_by-append}
use Rattle.std.proofs.lemmas.Bool.{cases_eq}
use mathlib.Core.Option.{some}
use lib.ListN.{get_elem?}
use Rattle.atomic_table.proofs.Lists.{set_here, set_else}
use Rattle.frame_model.specs.declared.key.Key.{Key}
use Rattle.frame_model.specs.declared.view.View.{View}
use Rattle.frame_model.specs.Key.{child_of}
use Rattle.frame_model.specs.Block.{wholes}
use Rattle.frame_model.specs.View.{spent, names, fills, whole_in, IsViewOf}
use Rattle.frame_model.specs.Fit.{total}
use Rattle.frame_model.proofs.Amounts.{names-le}
use Rattle.frame_model.proofs.Sums.{sum_set, at-le-sum, at_here}
use Rattle.frame_model.proofs.Keeps.{total_is, sum_one}

-- who has filled a word has the huge frame of its child in flight
pub fills_below : (key : Key) (c x : ℕ) → child_of x ≡ c → (u : View) → IsViewOf key u → fills x u ≤ whole_in c u
fills_below key c x e u i =
    ⊎_elim
    (λ z. omega arith)
    (λ p.
    let q = i.filled (x / 64) (omega (arith, p)) in
    let same : x / 64 / 8 ≡ c = omega arith in
    omega (arith, q.own, ap (λ j. wholes j u.own) same, names-le (x / 64) u.filled))
    (cases_eq (names (x / 64) u.filled) 0)

module _ (key : Key) (vs : List View) (id : ℕ) (v w : View) (at : get_elem? vs id ≡ some v) (f : View → ℕ) where
  -- the seat counts as its new view does, and the others as before
  pub total_set : total key f (set vs id w) + f v ≡ total key f vs + f w
  total_set = omega (arith, total_is key f vs, total_is key f (set vs id w), sum_set f vs id v w at)

  -- and so does a seat that is cut off
  pub total_cut : (u : View) → total key f (set vs id w ++ u ∷ []) + f v ≡ total key f vs + f w + f u
  total_cut u = omega (
    arith,
    total_is key f vs,
    total_is key f (set vs id w ++ u ∷ []),
    sum_set f vs id v w at,
    sum_by-append f (set vs id w) (u ∷ []),
    sum_one f u,
  )

  -- it counts beside another seat, which has the view of before
  pub total_two : (other : ℕ) (u : View) → other ≢ id → get_elem? vs other ≡ some u → f w + f u ≤ total key f (set vs id w) + f spent
  total_two other u apart there =
      let turned : get_elem? (set vs id w) id ≡ some w = set_here vs id w (at_here vs id v v at).0 in
      let still : get_elem? (set vs id w) other ≡ some u = set_else vs id other w apart ∙ there in
      let kept : get_elem? (set (set vs id w) other spent) id ≡ some w =
      set_else (set vs id w) other id spent (λ e. apart (sym e)) ∙ turned in
      omega (
        arith,
        total_is key f (set vs id w),
        sum_set f (set vs id w) other u spent still,
        at-le-sum f (set (set vs id w) other spent) id w kept,
      )
