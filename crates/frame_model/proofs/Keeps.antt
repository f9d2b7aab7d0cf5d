-- The fit is kept where some views are replaced by others and the words change by as much as the views do.
use Rattle.std.proofs.Common.{◌≡◌, ℕ, ◌+◌, ◌<◌, ◌≤◌, List, [], ◌∷◌, ◌++◌, set, arith}
use Rattle.std.specs.List.{sum_by, All}
use borrow.Author.Differences.{up, down}
use Rattle.std.proofs.lemmas.List.Sums.{sum_by-cons, sum_by-append}
use Rattle.std.proofs.lemmas.List.Elements.{All-set, All-push}
use mathlib.Core.Option.{some}
use lib.ListN.{get_elem?}
use Rattle.frame_model.specs.declared.key.Key.{Key}
use Rattle.frame_model.specs.declared.view.View.{View}
use Rattle.frame_model.specs.Key.{frame_count, tree_count, child_of}
use Rattle.frame_model.specs.Words.{bit_of, free_of, huge_of, held_of, held_in_tree, tree_free_of, reserved_of, resting_on, cores_on}
use Rattle.frame_model.specs.Words.{AreInRange}
use Rattle.frame_model.specs.View.{small_in, whole_in, marks, charged_in, paid_on, reserves, blocks_out, ground_small_in, ground_in}
use Rattle.frame_model.specs.View.{fixed_ground, IsViewOf}
use Rattle.frame_model.specs.Fit.{total, Fit}
use Rattle.frame_model.proofs.Sums.{sum_set}

-- the fixed ground adds its own, whatever the seats do
pub total_is : (key : Key) (f : View → ℕ) (views : List View)
    → total key f views ≡ f (fixed_ground key) + sum_by f views
unfolding total
total_is key f views = sum_by-cons f (fixed_ground key) views

-- in every sum over the views, the first ones are replaced by the others
abbrev pub Replaces : List View → List View → List View → List View → Type 0
Replaces before outs after ins = (f : View → ℕ) → sum_by f after + sum_by f outs ≡ sum_by f before + sum_by f ins

-- The words become `new` and the views `outs` become `ins`: what each part of the fit asks of that change.
pub record Balanced (key : Key) (ws : List ℕ) (views outs : List View) (new : List ℕ) (ins : List View) : Type 0 where
  pub wholes : (c : ℕ) → c < key.children
      → huge_of new c + sum_by (whole_in c) outs ≡ huge_of ws c + sum_by (whole_in c) ins
  pub bits : (x : ℕ) → x < frame_count key
      → bit_of key new x + sum_by (marks x) outs ≡ bit_of key ws x + sum_by (marks x) ins
  pub apart : (x : ℕ) → x < frame_count key
      → total key (small_in x) views + sum_by (small_in x) ins + huge_of new (child_of x) ≤ 1 + sum_by (small_in x) outs
  pub entries : (c : ℕ) → c < key.children
      → free_of new c + sum_by (charged_in c) ins + held_of key new c
      ≡ free_of ws c + sum_by (charged_in c) outs + held_of key ws c
  pub trees : (t : ℕ) → t < tree_count key
      → tree_free_of key new t + resting_on key new t + sum_by (paid_on t) ins + held_in_tree key new t
      ≡ tree_free_of key ws t + resting_on key ws t + sum_by (paid_on t) outs + held_in_tree key ws t
  pub reserved : (t : ℕ) → t < tree_count key
      → cores_on key new t + sum_by (reserves t) ins + reserved_of key ws t
      ≡ cores_on key ws t + sum_by (reserves t) outs + reserved_of key new t
  pub shares : sum_by (λ v. v.share) ins ≡ sum_by (λ v. v.share) outs
  pub lents : sum_by (λ v. up v.lent) ins + sum_by (λ v. down v.lent) outs + sum_by blocks_out outs
      ≡ sum_by (λ v. up v.lent) outs + sum_by (λ v. down v.lent) ins + sum_by blocks_out ins
  pub grounds : sum_by ground_in ins ≡ sum_by ground_in outs
  pub past_end : (x : ℕ) → key.frames ≤ x → x < frame_count key
      → sum_by (ground_small_in x) ins ≡ sum_by (ground_small_in x) outs
  pub in_range : AreInRange key new

pub kept : (key : Key) (shares : ℕ) (ws : List ℕ) (views outs : List View) (new : List ℕ) (after ins : List View)
    → Fit key shares ws views → Replaces views outs after ins → Balanced key ws views outs new ins
    → All (IsViewOf key) after → Fit key shares new after
kept key shares ws views outs new after ins fit r b all =
    record {
      wholes = λ c h. omega (
        arith,
        fit.wholes c h,
        b.wholes c h,
        r (whole_in c),
        total_is key (whole_in c) views,
        total_is key (whole_in c) after,
      );
      bits = λ x h. omega (
        arith,
        fit.bits x h,
        b.bits x h,
        r (marks x),
        total_is key (marks x) views,
        total_is key (marks x) after,
      );
      apart = λ x h. omega (
        arith,
        b.apart x h,
        r (small_in x),
        total_is key (small_in x) views,
        total_is key (small_in x) after,
      );
      entries_add_up = λ c h. omega (
        arith,
        fit.entries_add_up c h,
        b.entries c h,
        r (charged_in c),
        total_is key (charged_in c) views,
        total_is key (charged_in c) after,
      );
      trees_add_up = λ t h. omega (
        arith,
        fit.trees_add_up t h,
        b.trees t h,
        r (paid_on t),
        total_is key (paid_on t) views,
        total_is key (paid_on t) after,
      );
      reserved_once = λ t h. omega (
        arith,
        fit.reserved_once t h,
        b.reserved t h,
        r (reserves t),
        total_is key (reserves t) views,
        total_is key (reserves t) after,
      );
      shares_add_up = omega (
        arith,
        fit.shares_add_up,
        b.shares,
        r (λ v. v.share),
        total_is key (λ v. v.share) views,
        total_is key (λ v. v.share) after,
      );
      lents_add_up = omega (
        arith,
        fit.lents_add_up,
        b.lents,
        r (λ v. up v.lent),
        r (λ v. down v.lent),
        r blocks_out,
        total_is key (λ v. up v.lent) views,
        total_is key (λ v. up v.lent) after,
        total_is key (λ v. down v.lent) views,
        total_is key (λ v. down v.lent) after,
        total_is key blocks_out views,
        total_is key blocks_out after,
      );
      one_ground = omega (
        arith,
        fit.one_ground,
        b.grounds,
        r ground_in,
        total_is key ground_in views,
        total_is key ground_in after,
      );
      past_end = λ x p h. omega (
        arith,
        fit.past_end x p h,
        b.past_end x p h,
        r (ground_small_in x),
        total_is key (ground_small_in x) views,
        total_is key (ground_small_in x) after,
      );
      each = all;
      words_in_range = b.in_range;
    }

pub sum_one : (f : View → ℕ) (v : View) → sum_by f (v ∷ []) ≡ f v
sum_one f v = omega arith

-- one view becomes another
one_replaced : (views : List View) (id : ℕ) (v w : View) → get_elem? views id ≡ some v
    → Replaces views (v ∷ []) (set views id w) (w ∷ [])
one_replaced views id v w at f = omega (arith, sum_set f views id v w at, sum_one f v, sum_one f w)

-- one view is cut in two
one_cut : (views : List View) (id : ℕ) (v left right : View) → get_elem? views id ≡ some v
    → Replaces views (v ∷ []) (set views id left ++ right ∷ []) (left ∷ right ∷ [])
one_cut views id v left right at f = omega (arith, sum_set f views id v left at, sum_by-append f (set views id left) (right ∷ []))

-- two views become one, and a spent one
two_joined : (views : List View) (id other : ℕ) (v u both spent : View) → get_elem? views id ≡ some v
    → get_elem? (set views id both) other ≡ some u
    → Replaces views (v ∷ u ∷ []) (set (set views id both) other spent) (both ∷ spent ∷ [])
two_joined views id other v u both spent at at' f =
    omega (arith, sum_set f views id v both at, sum_set f (set views id both) other u spent at')

-- The fit after a step, a split and a join.

module _ (key : Key) (shares : ℕ) (ws : List ℕ) (views : List View) (id : ℕ) (v : View)
    (fit : Fit key shares ws views) (at : get_elem? views id ≡ some v) where
  pub turn_keeps : (new : List ℕ) (w : View) → Balanced key ws views (v ∷ []) new (w ∷ []) → IsViewOf key w
      → Fit key shares new (set views id w)
  turn_keeps new w b is =
      kept key shares ws views (v ∷ []) new (set views id w) (w ∷ []) fit (one_replaced views id v w at) b
      (All-set (IsViewOf key) views id w is fit.each)

  pub cut_keeps : (left right : View) → Balanced key ws views (v ∷ []) ws (left ∷ right ∷ [])
      → IsViewOf key left → IsViewOf key right → Fit key shares ws (set views id left ++ right ∷ [])
  cut_keeps left right b l r =
      kept key shares ws views (v ∷ []) ws (set views id left ++ right ∷ []) (left ∷ right ∷ []) fit (one_cut views id v left right at) b
      (All-push (IsViewOf key) (set views id left) right (All-set (IsViewOf key) views id left l fit.each) r)

  pub join_keeps : (other : ℕ) (u both gone : View) → get_elem? (set views id both) other ≡ some u
      → Balanced key ws views (v ∷ u ∷ []) ws (both ∷ gone ∷ []) → IsViewOf key both → IsViewOf key gone
      → Fit key shares ws (set (set views id both) other gone)
  join_keeps other u both gone there b i g =
      kept key shares ws views (v ∷ u ∷ []) ws (set (set views id both) other gone) (both ∷ gone ∷ []) fit
      (two_joined views id other v u both gone at there) b
      (All-set (IsViewOf key) (set views id both) other gone g (All-set (IsViewOf key) views id both i fit.each))
