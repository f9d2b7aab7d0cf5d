-- The words that a seat knows fit with its view and those of all others, none of whom steps where the
-- seat has all shares.
use Rattle.std.proofs.Common.{◌≡◌, ℕ, zero, suc, ◌+◌, List, [], ◌∷◌, Option, None, Some, Bool, true, false, subst, ap, sym, ◌∙◌, arith}
use Rattle.std.specs.Prelude.{if◌then◌else◌}
use Rattle.std.proofs.Math.Logic.{∥∥₁_map}
use Rattle.std.specs.List.{sum_by, All}
use Rattle.std.proofs.lemmas.List.Sums.{sum_by-cons, get_or-le-sum_by}
use Rattle.std.proofs.lemmas.List.Elements.{All-head, All-tail, All-cons}
use mathlib.Core.Option.{some, some-injective, some-ne-none}
use lib.ListN.{get_elem?}
use Rattle.frame_model.specs.declared.key.Key.{Key}
use Rattle.frame_model.specs.declared.view.View.{View}
use Rattle.frame_model.specs.View.{fixed_ground, IsViewOf}
use Rattle.frame_model.specs.Fit.{total, Fit}
use Rattle.frame_core.specs.Moves.{IsAtRest}
use Rattle.frame_core.specs.Mover.{FitsOthers}
use Rattle.frame_table.specs.Rule.{known_in, FitsAmong}
use Rattle.frame_table.specs.Mover.{mover}
use Rattle.frame_table.specs.Seats.{key_at, view_of, watch_of}
use Rattle.frame_table.specs.declared.rule.Watch.{Watch}
use Rattle.frame_table.specs.declared.shared.SharedMoves.{SharedMoves}

-- all views but one
others_of : List View → ℕ → List View
others_of [] id = []
others_of (u ∷ us) zero = us
others_of (u ∷ us) (suc id) = u ∷ others_of us id

front_sum : (f : View → ℕ) (vs : List View) (id : ℕ) (v : View) → get_elem? vs id ≡ some v
    → f v + sum_by f (others_of vs id) ≡ sum_by f vs
unfolding others_of
front_sum f [] id v at = absurd (some-ne-none v (sym at))
front_sum f (u ∷ us) zero v at = omega (arith, ap f (some-injective u v at), sum_by-cons f u us)
front_sum f (u ∷ us) (suc id) v at =
    omega (arith, front_sum f us id v at, sum_by-cons f u us, sum_by-cons f u (others_of us id))

front_all : (P : View → Type 0) (vs : List View) (id : ℕ) → All P vs → All P (others_of vs id)
unfolding others_of
front_all P [] id all = all
front_all P (u ∷ us) zero all = All-tail P u us all
front_all P (u ∷ us) (suc id) all =
    All-cons P u (others_of us id) (All-head P u us all) (front_all P us id (All-tail P u us all))

at_all : (P : View → Type 0) (vs : List View) (id : ℕ) (v : View) → get_elem? vs id ≡ some v → All P vs → P v
at_all P [] id v at all = absurd (some-ne-none v (sym at))
at_all P (u ∷ us) zero v at all = subst P (some-injective u v at) (All-head P u us all)
at_all P (u ∷ us) (suc id) v at all = at_all P us id v at (All-tail P u us all)

total_sum : (key : Key) (f : View → ℕ) (vs : List View) → total key f vs ≡ f (fixed_ground key) + sum_by f vs
unfolding total
total_sum key f vs = sum_by-cons f (fixed_ground key) vs

module _ (key : Key) (ws : List ℕ) (vs : List View) (id : ℕ) (v : View) (fit : Fit key key.cores ws vs)
    (at : get_elem? vs id ≡ some v) where
  same_total : (f : View → ℕ) → total key f (v ∷ others_of vs id) ≡ total key f vs
  same_total f = omega (
    arith,
    total_sum key f (v ∷ others_of vs id),
    total_sum key f vs,
    sum_by-cons f v (others_of vs id),
    front_sum f vs id v at,
  )

  -- the order of the views does not matter
  fronted : Fit key key.cores ws (v ∷ others_of vs id)
  fronted = record {
    wholes = λ c h. same_total _ ∙ fit.wholes c h;
    bits = λ x h. same_total _ ∙ fit.bits x h;
    apart = λ x h. omega (arith, same_total (Rattle.frame_model.specs.View.small_in x), fit.apart x h);
    entries_add_up = λ c h. omega (arith, same_total (Rattle.frame_model.specs.View.charged_in c), fit.entries_add_up c h);
    trees_add_up = λ t h. omega (arith, same_total (Rattle.frame_model.specs.View.paid_on t), fit.trees_add_up t h);
    reserved_once = λ t h. omega (arith, same_total (Rattle.frame_model.specs.View.reserves t), fit.reserved_once t h);
    shares_add_up = same_total _ ∙ fit.shares_add_up;
    lents_add_up = omega (
      arith,
      same_total (λ (u : View). borrow.Author.Differences.up u.lent),
      same_total (λ (u : View). borrow.Author.Differences.down u.lent),
      same_total Rattle.frame_model.specs.View.blocks_out,
      fit.lents_add_up,
    );
    one_ground = same_total _ ∙ fit.one_ground;
    past_end = λ x h l. same_total _ ∙ fit.past_end x h l;
    each = All-cons (IsViewOf key) v (others_of vs id) (at_all (IsViewOf key) vs id v at fit.each)
        (front_all (IsViewOf key) vs id fit.each);
    words_in_range = fit.words_in_range;
  }

  -- who has all shares leaves none to others
  at_rest : v.share ≡ key.cores → All IsAtRest (others_of vs id)
  at_rest all k d h has = absurd (omega (
    arith,
    all,
    has,
    get_or-le-sum_by (λ (u : View). u.share) (others_of vs id) k d h,
    front_sum (λ (u : View). u.share) vs id v at,
    total_sum key (λ (u : View). u.share) vs,
    fit.shares_add_up,
  ))

-- words that fit with views of which the own is one fit with it and the others
pub fit_of : (m : SharedMoves) (words : List ℕ) → FitsAmong (key_at m.table.now) words (view_of m.seat.now)
    → FitsOthers (mover m) words
fit_of m words f =
    let key : Key = key_at m.table.now in
    let v : View = view_of m.seat.now in (
      key.cores,
      (
        others_of f.0 f.1.0,
        (
          fronted key words f.0 f.1.0 v f.1.1.0 f.1.1.1,
          at_rest key words f.0 f.1.0 v f.1.1.0 f.1.1.1,
        ),
      ),
    )

pub knows_the_fit : (m : SharedMoves) (words : List ℕ) → (mover m).words ≡ Some words → ∥ FitsOthers (mover m) words ∥₁
knows_the_fit m words knows =
    ∥∥₁_map (m.sits.at.fits words knows) (λ (f : FitsAmong (key_at m.table.now) words (view_of m.seat.now)). fit_of m words f)

-- what a seat knows it recalls
pub known_is_recalled : (e : Watch) (words : List ℕ) → known_in e ≡ Some words → e.known ≡ Some words
known_is_recalled e words knows = by e.settled e.known knows
  where
    by : (b : Bool) (known : Option (List ℕ)) → (if b then known else None) ≡ Some words → known ≡ Some words
    by true known h = h
    by false known h = absurd (cc)

pub recalls_the_known : (m : SharedMoves) (words : List ℕ) → (mover m).words ≡ Some words → (mover m).recalled ≡ Some words
recalls_the_known m words knows = known_is_recalled (watch_of m.seat.now) words knows
