-- Seats come out of a list from its end, and their views become one.
use Rattle.std.proofs.Common.{◌≡◌, ℕ, zero, suc, ◌+◌, ◌<◌, ◌≤◌, pos, ◌+ℤ◌, List, [], ◌∷◌, ◌++◌, length, map, flat_map, get_or, take, sym}
use Rattle.std.proofs.Common.{refl, ap, ◌∙◌, arith, subst, length-append, add-one}
use Rattle.std.specs.Prelude.{false, ◌||◌}
use Rattle.std.specs.List.{All}
use Rattle.std.proofs.lemmas.List.Sums.{sum_by-cons, sum_by-append}
use Rattle.std.proofs.lemmas.List.Elements.{All-head, All-tail}
use Rattle.std.proofs.lemmas.Int.{ints}
use Rattle.std.proofs.lemmas.List.{map-append, append-nil}
use Rattle.std.proofs.lemmas.Grind.{flat_map-append}
use mathlib.Core.Option.{some, some-injective, some-ne-none}
use lib.ListN.{get_elem?}
use Rattle.atomic_table.specs.Table.{Final, Seen}
use Rattle.atomic_table.proofs.Lists.{at_map}
use Rattle.frame_model.specs.declared.key.Key.{Key}
use Rattle.frame_table.specs.declared.rule.Watch.{Watch}
use Rattle.frame_model.specs.declared.view.View.{View}
use Rattle.frame_model.specs.Block.{smalls, wholes}
use Rattle.frame_model.specs.View.{IsIdle}
use Rattle.frame_model.specs.Fit.{Fit}
use Rattle.frame_model.specs.Steps.{next}
use Rattle.frame_model.specs.Seats.{join_idle, joined_by}
use Rattle.frame_model.proofs.Blocks.{smalls_none, wholes_none, smalls_both, wholes_both}
use Rattle.frame_model.proofs.Steps.Shared.{at-le-total}
use Rattle.frame_table.specs.declared.rule.Origin.{Origin}
use Rattle.frame_table.specs.declared.seats.CoreSeat.{CoreSeat}
use Rattle.frame_model.specs.declared.view.Eye.{Eye}
use Rattle.frame_table.specs.Rule.{key_from, eye_view, eye_in, Holds}
use Rattle.frame_table.specs.Seats.{view_of}
use Rattle.frame_table.specs.Closing.{lent_through, share_through, kept_through, IsGathered, IsClosed}

module _ {A : Type 0} where
  get_front : (xs : List A) (x : A) (k : ℕ) (d : A) → k < length xs → get_or (xs ++ x ∷ []) k d ≡ get_or xs k d
  get_front [] x k d lt = absurd (omega arith)
  get_front (y ∷ ys) x zero d lt = refl
  get_front (y ∷ ys) x (suc k) d lt = get_front ys x k d (omega arith)

  get_last : (xs : List A) (x d : A) → get_or (xs ++ x ∷ []) (length xs) d ≡ x
  get_last [] x d = refl
  get_last (y ∷ ys) x d = get_last ys x d

  -- what holds of all elements holds of all but the last
  pub all_front : (P : A → Type 0) (xs ys : List A) (x : A) → xs ≡ ys ++ x ∷ [] → All P xs → All P ys
  all_front P xs ys x e h k d lt = subst P (ap (λ l. get_or l k d) e ∙ get_front ys x k d lt)
      (h k d (omega (arith, lt, ap length e, length-append ys (x ∷ []))))

  -- and of the last
  pub all_last : (P : A → Type 0) (xs ys : List A) (x : A) → xs ≡ ys ++ x ∷ [] → All P xs → P x
  all_last P xs ys x e h = subst P (ap (λ l. get_or l (length ys) x) e ∙ get_last ys x x)
      (h (length ys) x (omega (arith, ap length e, length-append ys (x ∷ []))))

  pub taken_more : (xs ys : List A) (i : ℕ) (x : A) → ys ≡ take i xs → get_elem? xs i ≡ some x → ys ++ x ∷ [] ≡ take (i + 1) xs
  taken_more xs ys i x e at = ap (λ l. l ++ x ∷ []) e ∙ (more xs i x at ∙ ap (λ n. take n xs) (sym (add-one i)))
    where
      more : (xs : List A) (i : ℕ) (x : A) → get_elem? xs i ≡ some x → take i xs ++ x ∷ [] ≡ take (suc i) xs
      more [] i x at = absurd (some-ne-none x (sym at))
      more (y ∷ ys) zero x at = ap (λ z. z ∷ []) (sym (some-injective y x at))
      more (y ∷ ys) (suc i) x at = ap (λ l. y ∷ l) (more ys i x at)

-- a list whose last element came out, as another list reads it
pub last_of : {A B : Type 0} (f : A → B) (xs ys : List A) (x : A) → xs ≡ ys ++ x ∷ []
    → map f xs ≡ map f ys ++ f x ∷ []
last_of f xs ys x e = ap (map f) e ∙ map-append f ys (x ∷ [])

pub lent_none : lent_through [] ≡ pos 0
unfolding lent_through
lent_none = refl

pub lent-last : (ys : List CoreSeat) (x : CoreSeat)
    → lent_through (ys ++ x ∷ []) ≡ lent_through ys +ℤ (view_of x).lent
unfolding lent_through
lent-last [] x = omega (arith, ints)
lent-last (y ∷ ys) x = omega (arith, ints, lent-last ys x)

share_none : share_through [] ≡ 0
unfolding share_through
share_none = refl

share-last : (ys : List CoreSeat) (x : CoreSeat) → share_through (ys ++ x ∷ []) ≡ share_through ys + (view_of x).share
unfolding share_through
share-last ys x =
    omega (
      arith,
      sum_by-append (λ (s : CoreSeat). (view_of s).share) ys (x ∷ []),
      sum_by-cons (λ (s : CoreSeat). (view_of s).share) x [],
    )

-- each seat has a share
pub some_each : (seats : List CoreSeat) → All (λ s. 0 < (view_of s).share) seats → length seats ≤ share_through seats
unfolding share_through
some_each [] all = omega arith
some_each (s ∷ seats) all =
    omega (
      arith,
      sum_by-cons (λ (s : CoreSeat). (view_of s).share) s seats,
      All-head (λ (s : CoreSeat). 0 < (view_of s).share) s seats all,
      some_each seats (All-tail (λ (s : CoreSeat). 0 < (view_of s).share) s seats all),
    )

pub kept_none : kept_through [] ≡ []
unfolding kept_through
kept_none = refl

pub kept-last : (ys : List CoreSeat) (x : CoreSeat)
    → kept_through (ys ++ x ∷ []) ≡ kept_through ys ++ (view_of x).kept
unfolding kept_through
kept-last ys x =
    flat_map-append (λ (s : CoreSeat). (view_of s).kept) ys (x ∷ [])
    ∙ ap (λ bs. flat_map (λ (s : CoreSeat). (view_of s).kept) ys ++ bs) (append-nil (view_of x).kept)

smalls-last : (k : ℕ) (ys : List CoreSeat) (x : CoreSeat)
    → smalls k (kept_through (ys ++ x ∷ [])) ≡ smalls k (kept_through ys) + smalls k (view_of x).kept
smalls-last k ys x = ap (smalls k) (kept-last ys x) ∙ smalls_both k (kept_through ys) (view_of x).kept

wholes-last : (c : ℕ) (ys : List CoreSeat) (x : CoreSeat)
    → wholes c (kept_through (ys ++ x ∷ [])) ≡ wholes c (kept_through ys) + wholes c (view_of x).kept
wholes-last c ys x = ap (wholes c) (kept-last ys x) ∙ wholes_both c (kept_through ys) (view_of x).kept

-- So much of the seats is in the view, while the others are still in a list.
pub record IsGathering (all others : List CoreSeat) (v : View) : Type 0 where
  pub idle : IsIdle v
  pub not_ground : v.is_ground ≡ false
  pub share : v.share + share_through others ≡ share_through all
  pub lent : v.lent +ℤ lent_through others ≡ lent_through all
  pub smalls : (x : ℕ) → smalls x v.kept + smalls x (kept_through others) ≡ smalls x (kept_through all)
  pub wholes : (c : ℕ) → wholes c v.kept + wholes c (kept_through others) ≡ wholes c (kept_through all)

joined_idle : (v u : View) → IsIdle v → IsIdle (joined_by next join_idle v u)
joined_idle v u i = record {
  share = omega (arith, i.share);
  paid = i.paid;
  charged = i.charged;
  reserving = i.reserving;
  own = i.own;
}

module _ (all xs ys : List CoreSeat) (x : CoreSeat) (seated : (view_of x).is_ground ≡ false) where
  pub gather_first : all ≡ ys ++ x ∷ [] → IsIdle (view_of x) → IsGathering all ys (view_of x)
  gather_first e idle = record {
    idle = idle;
    not_ground = seated;
    share = omega (arith, ap share_through e, share-last ys x);
    lent = omega (arith, ints, ap lent_through e, lent-last ys x);
    smalls = λ k. omega (arith, ap (λ l. smalls k (kept_through l)) e, smalls-last k ys x);
    wholes = λ c. omega (arith, ap (λ l. wholes c (kept_through l)) e, wholes-last c ys x);
  }

  pub gather_more : (v : View) → IsGathering all xs v → xs ≡ ys ++ x ∷ []
      → IsGathering all ys (joined_by next join_idle v (view_of x))
  gather_more v g e = record {
    idle = joined_idle v (view_of x) g.idle;
    not_ground = ap (λ b. b || (view_of x).is_ground) g.not_ground ∙ seated;
    share = omega (arith, g.share, ap share_through e, share-last ys x);
    lent = omega (arith, ints, g.lent, ap lent_through e, lent-last ys x);
    smalls = λ k. omega (
      arith,
      g.smalls k,
      smalls_both k v.kept (view_of x).kept,
      ap (λ l. smalls k (kept_through l)) e,
      smalls-last k ys x,
    );
    wholes = λ c. omega (
      arith,
      g.wholes c,
      wholes_both c v.kept (view_of x).kept,
      ap (λ l. wholes c (kept_through l)) e,
      wholes-last c ys x,
    );
  }

pub gathered_all : (all others : List CoreSeat) (v : View) → IsGathering all others v → others ≡ []
    → IsGathered all v
gathered_all all others v g e = record {
  idle = g.idle;
  not_ground = g.not_ground;
  share = omega (arith, g.share, ap share_through e, share_none);
  lent = omega (arith, ints, g.lent, ap lent_through e, lent_none);
  smalls = λ x. omega (arith, g.smalls x, ap (λ l. smalls x (kept_through l)) e, ap (smalls x) kept_none, smalls_none x);
  wholes = λ c. omega (arith, g.wholes c, ap (λ l. wholes c (kept_through l)) e, ap (wholes c) kept_none, wholes_none c);
}

-- the views of seats are those of their eyes
pub views_same : (es : List Watch) → map (λ (e : Eye). e.view) (map eye_in es) ≡ map eye_view es
views_same [] = refl
views_same (e ∷ es) = ap (λ l. e.view ∷ l) (views_same es)

-- what a closed table was
pub closed_as : (o : Origin) (id : ℕ) (e : Watch) (words : List ℕ) (slots : List (Unit {0})) (seats : List CoreSeat)
    → Final (Seen (Holds o) id e) words slots → IsGathered seats e.view → (key_from o).cores ≤ share_through seats
    → IsClosed (key_from o) seats words
closed_as o id e words slots seats final g enough =
    let key : Key = key_from o in
    let s = final.0 in
    let vs : List View = map eye_view s.views in
    let at : get_elem? vs id ≡ some e.view = at_map eye_view s.views id e final.1.1 in
    let fit : Fit key key.cores s.words vs = final.1.0.fits in
    record {
      state = record { words = s.words; eyes = map eye_in s.views };
      id = id;
      eye = eye_in e;
      words = final.2;
      at = at_map eye_in s.views id e final.1.1;
      fits = subst (Fit key key.cores s.words) (sym (views_same s.views)) fit;
      gathered = g;
      share = omega (arith, fit.shares_add_up, at-le-total key key.cores s.words vs id e.view fit at (λ v. v.share), g.share, enough);
    }
