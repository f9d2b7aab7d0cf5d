-- How the own view changes, step by step: what it pays, reserves and lends.
use Rattle.std.proofs.Common.{◌≡◌, ⊎_elim, ℕ, ◌-◌, ◌^◌, ◌<◌, ◌≤◌, Option, None, Some, refl, ap, sym, subst, ◌∙◌, arith}
use Rattle.std.specs.Bool.{IsTrue}
use Rattle.std.specs.Prelude.{Bool, true, false, ℤ, pos, ◌+ℤ◌, ◌-ℤ◌}
use Rattle.std.proofs.lemmas.Bool.{cases_eq}
use Rattle.std.proofs.lemmas.Nat.{pow_pos}
use Rattle.std.proofs.lemmas.Bool.Decides.{nat_tests}
use Rattle.frame_words.specs.Words.{free_in, flag_in, rest_in}
use Rattle.frame_model.specs.declared.block.FrameBlock.{FrameBlock}
use Rattle.frame_model.specs.declared.key.Key.{Key}
use Rattle.frame_model.specs.declared.view.Amount.{Amount}
use Rattle.frame_model.specs.declared.view.View.{View}
use Rattle.frame_model.specs.Key.{tree_count, tree_of}
use Rattle.frame_model.specs.Block.{IsBlock}
use Rattle.frame_model.specs.View.{counted, count_in, paid_on, NoneBut, IsIdle}
use Rattle.frame_model.specs.Steps.{effect, reserve, collect, tree_pay, local_pay, local_refund, tree_refund, swap_local, unreserve, after_load}
use Rattle.frame_model.specs.Steps.Amounts.{more, less, rest_amount, rest_tree, more_of, less_of}
use Rattle.frame_model.specs.Steps.Conditions.{CanReserve, CanCollect, CanTreePay, CanLocalPay, CanLocalRefund, CanTreeRefund, CanSwapLocal}
use Rattle.frame_model.specs.Steps.Conditions.{CanUnreserve}
use Rattle.frame_core.specs.Moves.{after}
use Rattle.frame_model.proofs.Amounts.{count_none, count_here, count_else}
use Rattle.low_frames.specs.Takes.{IsAsBefore, HasHandedOut}
use Rattle.low_frames.specs.Gives.{HasTakenBack}
use Rattle.core_frames.specs.Places.{HasPaidIf}
use Rattle.core_frames.specs.Search.{HasPaid, HasReserved, HasRefunded, HasPutDown, HasLentOne, HasTakenOne, Reserves}

-- what is not above 0
pub unset : (n : ℕ) → (0 < n → IsTrue false) → n ≡ 0
unset n h = ⊎_elim (λ z. z) (λ ne. let t : false ≡ true = h (omega arith) in absurd (cc)) (cases_eq n 0)

-- Amounts.

pub more_none : (t n : ℕ) → more t n None ≡ counted t n
unfolding more
more_none t n = refl

pub less_all : (t n : ℕ) → less t n (counted t n) ≡ None
unfolding less counted
less_all t n = grind (arith, nat_tests)

pub less_some : (t n k : ℕ) → k ≤ n → less t k (counted t n) ≡ counted t (n - k)
unfolding less counted
less_some t n k h = grind (arith, nat_tests)

pub none_but_none : (t : ℕ) (a : Option Amount) → a ≡ None → NoneBut t a
none_but_none t a e other ne = ap (count_in other) e ∙ count_none other

pub none_but_counted : (t n : ℕ) (a : Option Amount) → a ≡ counted t n → NoneBut t a
none_but_counted t n a e other ne = ap (count_in other) e ∙ count_else t other n ne

pub paid_there : (t n : ℕ) (v : View) → v.paid ≡ counted t n → paid_on t v ≡ n
paid_there t n v e = ap (count_in t) e ∙ count_here t n

-- Views.

-- the view is as before but for its counts, and for what it pays, reserves and lends
abbrev pub Carries : View → Option Amount → Option ℕ → ℤ → View → Type 0
Carries v p r k w = w ≡ record v { paid = p; reserving = r; lent = k; moves = w.moves; lost = w.lost }

-- one step more
pub changed : (v u w : View) (p a q : Option Amount) (r b s : Option ℕ) (k d l : ℤ) (m n : ℕ) → Carries v p r k u
    → w ≡ record u { paid = a; reserving = b; lent = d; moves = m; lost = n } → a ≡ q → b ≡ s → d ≡ l → Carries v q s l w
changed v u w p a q r b s k d l m n e f x y z =
    let F : Option Amount → Option ℕ → ℤ → ℕ → ℕ → View = (λ a b d m n. record v {
      paid = a;
      reserving = b;
      lent = d;
      moves = m;
      lost = n;
    }) in
    f
    ∙ ap (λ (y : View). record y { paid = a; reserving = b; lent = d; moves = m; lost = n }) e
    ∙ ap (λ i. F i b d m n) x ∙ ap (λ i. F q i d m n) y ∙ ap (λ i. F q s i m n) z
    ∙ sym (ap (λ i. F q s l i w.lost) (ap (λ y. y.moves) f) ∙ ap (λ i. F q s l m i) (ap (λ y. y.lost) f))

-- Steps from a view that is as before.

module _ (t : ℕ → ℕ) (v u w : View) (before : IsAsBefore v u) where
  pub reserved : (tree seen free : ℕ) → free ≡ free_in seen → w ≡ after t (reserve tree seen) u → HasReserved tree free v w
  reserved tree seen free is e =
      changed v u w v.paid (counted tree (free_in seen)) (counted tree free) v.reserving (Some tree) (Some tree) v.lent u.lent v.lent
      (t u.moves) u.lost before e (ap (counted tree) (sym is)) refl (ap (λ x. x.lent) before)

  pub collected : (tree seen free : ℕ) → v.paid ≡ None → free ≡ free_in seen → w ≡ after t (collect tree seen) u
      → HasPaid tree free v w
  collected tree seen free none is e =
      changed v u w v.paid (more tree (free_in seen) u.paid) (counted tree free) v.reserving u.reserving v.reserving v.lent u.lent v.lent
      (t u.moves) u.lost before e
      (ap (more tree (free_in seen)) (ap (λ x. x.paid) before ∙ none) ∙ more_none tree (free_in seen) ∙ ap (counted tree) (sym is))
      (ap (λ x. x.reserving) before) (ap (λ x. x.lent) before)

  pub paid_own : (core seen tree resting n : ℕ) → v.paid ≡ None → rest_in seen ≡ Some (tree, resting)
      → w ≡ after t (local_pay core seen n) u → HasPaid tree n v w
  paid_own core seen tree resting n none is e =
      changed v u w v.paid (more_of (rest_in seen) n u.paid) (counted tree n) v.reserving u.reserving v.reserving v.lent u.lent v.lent
      (t u.moves) u.lost before e
      (ap (λ r. more_of r n u.paid) is ∙ ap (more tree n) (ap (λ x. x.paid) before ∙ none) ∙ more_none tree n)
      (ap (λ x. x.reserving) before) (ap (λ x. x.lent) before)

  pub paid_tree : (tree seen n : ℕ) → v.paid ≡ None → w ≡ after t (tree_pay tree seen n) u → HasPaid tree n v w
  paid_tree tree seen n none e =
      changed v u w v.paid (more tree n u.paid) (counted tree n) v.reserving u.reserving v.reserving v.lent u.lent v.lent
      (t u.moves) u.lost before e
      (ap (more tree n) (ap (λ x. x.paid) before ∙ none) ∙ more_none tree n)
      (ap (λ x. x.reserving) before) (ap (λ x. x.lent) before)

  pub refunded_own : (core seen tree resting n : ℕ) → v.paid ≡ counted tree n → rest_in seen ≡ Some (tree, resting)
      → w ≡ after t (local_refund core seen n) u → HasRefunded v w
  refunded_own core seen tree resting n paid is e =
      changed v u w v.paid (less_of (rest_in seen) n u.paid) None v.reserving u.reserving v.reserving v.lent u.lent v.lent
      (t u.moves) u.lost before e
      (ap (λ r. less_of r n u.paid) is ∙ ap (less tree n) (ap (λ x. x.paid) before ∙ paid) ∙ less_all tree n)
      (ap (λ x. x.reserving) before) (ap (λ x. x.lent) before)

  pub refunded_tree : (tree n : ℕ) → v.paid ≡ counted tree n → w ≡ after t (tree_refund tree n) u → HasRefunded v w
  refunded_tree tree n paid e =
      changed v u w v.paid (less tree n u.paid) None v.reserving u.reserving v.reserving v.lent u.lent v.lent (t u.moves) u.lost before e
      (ap (less tree n) (ap (λ x. x.paid) before ∙ paid) ∙ less_all tree n) (ap (λ x. x.reserving) before) (ap (λ x. x.lent) before)

-- What the steps ask.

pub can_reserve : (key was : Key) (v u : View) (tree seen : ℕ) → key ≡ was → tree < tree_count was → IsIdle v → IsAsBefore v u
    → flag_in seen ≡ 0 → CanReserve key u tree seen
can_reserve key was v u tree seen k inside idle before flag = record {
  inside = subst (λ (x : Key). tree < tree_count x) (sym k) inside;
  no_flag = flag;
  paid = ap (λ x. x.paid) before ∙ idle.paid;
  reserving = ap (λ x. x.reserving) before ∙ idle.reserving;
}

pub can_collect : (key was : Key) (v u : View) (tree : ℕ) → key ≡ was → tree < tree_count was → IsIdle v → IsAsBefore v u
    → CanCollect key u tree
can_collect key was v u tree k inside idle before = record {
  inside = subst (λ (x : Key). tree < tree_count x) (sym k) inside;
  paid = none_but_none tree u.paid (ap (λ x. x.paid) before ∙ idle.paid);
}

pub can_pay_tree : (key was : Key) (v u : View) (tree seen n : ℕ) → key ≡ was → tree < tree_count was → IsIdle v → IsAsBefore v u
    → n ≤ free_in seen → CanTreePay key u tree seen n
can_pay_tree key was v u tree seen n k inside idle before enough = record {
  inside = subst (λ (x : Key). tree < tree_count x) (sym k) inside;
  enough = enough;
  paid = none_but_none tree u.paid (ap (λ x. x.paid) before ∙ idle.paid);
}

pub can_pay_own : (key was : Key) (v u : View) (core seen n tree resting : ℕ) → key ≡ was → core < was.cores → IsIdle v → IsAsBefore v u
    → rest_in seen ≡ Some (tree, resting) → n ≤ resting → CanLocalPay key u core seen n
can_pay_own key was v u core seen n tree resting k inside idle before is enough = record {
  inside = subst (λ (x : Key). core < x.cores) (sym k) inside;
  tree = tree;
  resting = resting;
  seen_as = is;
  enough = enough;
  paid = none_but_none tree u.paid (ap (λ x. x.paid) before ∙ idle.paid);
}

pub can_refund_own : (key was : Key) (v u : View) (core seen n tree resting : ℕ) → key ≡ was → core < was.cores → v.paid ≡ counted tree n
    → IsAsBefore v u → rest_in seen ≡ Some (tree, resting) → CanLocalRefund key u core seen n
can_refund_own key was v u core seen n tree resting k inside paid before is = record {
  inside = subst (λ (x : Key). core < x.cores) (sym k) inside;
  tree = tree;
  resting = resting;
  seen_as = is;
  paid = omega (arith, paid_there tree n u (ap (λ x. x.paid) before ∙ paid));
}

pub can_refund_tree : (key was : Key) (v u : View) (tree n : ℕ) → key ≡ was → tree < tree_count was → v.paid ≡ counted tree n
    → IsAsBefore v u → CanTreeRefund key u tree n
can_refund_tree key was v u tree n k inside paid before = record {
  inside = subst (λ (x : Key). tree < tree_count x) (sym k) inside;
  paid = omega (arith, paid_there tree n u (ap (λ x. x.paid) before ∙ paid));
}

-- What follows a step.

-- what is carried, said in another way
pub settled : (v w : View) (p q : Option Amount) (r s : Option ℕ) (k l : ℤ) → Carries v p r k w → p ≡ q → r ≡ s → k ≡ l
    → Carries v q s l w
settled v w p q r s k l e x y z =
    let F : Option Amount → Option ℕ → ℤ → View = (λ i j h. record v {
      paid = i;
      reserving = j;
      lent = h;
      moves = w.moves;
      lost = w.lost;
    }) in
    e ∙ ap (λ i. F i r k) x ∙ ap (λ i. F q i k) y ∙ ap (λ i. F q s i) z

-- a view that carries something, and is left as it was, carries it still
pub carried_on : (v u w : View) (p : Option Amount) (r : Option ℕ) (k : ℤ) → Carries v p r k u → IsAsBefore u w → Carries v p r k w
carried_on v u w p r k e f =
    changed v u w p u.paid p r u.reserving r k u.lent k w.moves w.lost e f (ap (λ x. x.paid) e) (ap (λ x. x.reserving) e)
    (ap (λ x. x.lent) e)

-- a view that only loaded is as before
pub loaded : (t : ℕ → ℕ) (v w : View) → w ≡ after_load t v → IsAsBefore v w
loaded t v w e =
    changed v v w v.paid v.paid v.paid v.reserving v.reserving v.reserving v.lent v.lent v.lent (t v.moves) v.lost refl e
    refl refl refl

-- a view that is left as it was, and as it was again
pub before_twice : (v u w : View) → IsAsBefore v u → IsAsBefore u w → IsAsBefore v w
before_twice v u w e f = carried_on v u w v.paid v.reserving v.lent e f

pub idle_still : (v u : View) → IsIdle v → IsAsBefore v u → IsIdle u
idle_still v u idle e = record {
  share = omega (arith, ap (λ (x : View). x.share) e, idle.share);
  paid = ap (λ x. x.paid) e ∙ idle.paid;
  charged = ap (λ x. x.charged) e ∙ idle.charged;
  reserving = ap (λ x. x.reserving) e ∙ idle.reserving;
  own = ap (λ x. x.own) e ∙ idle.own;
}

-- a view that puts down what it carries is as an idle one
pub put_down_idle : (v w : View) → IsIdle v → HasPutDown v w → IsAsBefore v w
put_down_idle v w idle e =
    settled v w None v.paid None v.reserving v.lent v.lent e (sym idle.paid) (sym idle.reserving) refl

-- an idle view paid, and refunded
pub refunded_idle : (v u w : View) (tree n : ℕ) → IsIdle v → HasPaid tree n v u → HasRefunded u w → IsAsBefore v w
refunded_idle v u w tree n idle e f =
    changed v u w (counted tree n) None v.paid v.reserving u.reserving v.reserving v.lent u.lent v.lent w.moves w.lost e f (sym idle.paid)
    (ap (λ x. x.reserving) e) (ap (λ x. x.lent) e)

-- Swaps of local words.

rest_amount_none : rest_amount None ≡ None
unfolding rest_amount
rest_amount_none = refl

rest_amount_some : (t n : ℕ) → rest_amount (Some (t, n)) ≡ counted t n
unfolding rest_amount
rest_amount_some t n = refl

pub swapped_none : (t : ℕ → ℕ) (core found : ℕ) (put : Option (ℕ × ℕ)) (v w : View) → rest_in found ≡ None
    → w ≡ effect t (swap_local core put) found v → HasPutDown v w
swapped_none t core found put v w is e =
    changed v v w v.paid (rest_amount (rest_in found)) None v.reserving (rest_tree (rest_in found)) None v.lent v.lent v.lent (t v.moves)
    v.lost refl e (ap rest_amount is ∙ rest_amount_none) (ap rest_tree is) refl

pub swapped_some : (t : ℕ → ℕ) (core found tree n : ℕ) (put : Option (ℕ × ℕ)) (v w : View) → rest_in found ≡ Some (tree, n)
    → w ≡ effect t (swap_local core put) found v → HasReserved tree n v w
swapped_some t core found tree n put v w is e =
    changed v v w v.paid (rest_amount (rest_in found)) (counted tree n) v.reserving (rest_tree (rest_in found)) (Some tree) v.lent v.lent
    v.lent (t v.moves) v.lost refl e (ap rest_amount is ∙ rest_amount_some tree n) (ap rest_tree is) refl

pub can_put_in : (key : Key) (v : View) (core tree n : ℕ) → core < key.cores → tree < tree_count key → Reserves tree n v
    → CanSwapLocal key v core (Some (tree, n))
can_put_in key v core tree n inside there r = record {
  inside = inside;
  is_rest = (there, r.few);
  gives_up = (r.reserving, paid_there tree n v r.paid, none_but_counted tree n v.paid r.paid);
}

pub can_take_out : (key was : Key) (v u : View) (core : ℕ) → key ≡ was → core < was.cores → IsIdle v → IsAsBefore v u
    → CanSwapLocal key u core None
can_take_out key was v u core k inside idle before = record {
  inside = subst (λ (x : Key). core < x.cores) (sym k) inside;
  is_rest = tt;
  gives_up = idle_still v u idle before;
}

-- The end of a reservation.

pub can_unreserve : (key was : Key) (v u : View) (tree n : ℕ) (k : ℤ) → key ≡ was → tree < tree_count was
    → Carries v (counted tree n) (Some tree) k u → CanUnreserve key u tree n
can_unreserve key was v u tree n k same inside e = record {
  inside = subst (λ (x : Key). tree < tree_count x) (sym same) inside;
  reserving = ap (λ x. x.reserving) e;
  paid = omega (arith, paid_there tree n u (ap (λ x. x.paid) e));
}

pub unreserved : (t : ℕ → ℕ) (v u w : View) (tree n : ℕ) (k : ℤ) → Carries v (counted tree n) (Some tree) k u
    → w ≡ after t (unreserve tree n) u → Carries v None None k w
unreserved t v u w tree n k e f =
    changed v u w (counted tree n) (less tree n u.paid) None (Some tree) None None k u.lent k (t u.moves) u.lost e f
    (ap (λ x. less tree n x.paid) e ∙ less_all tree n) refl (ap (λ x. x.lent) e)

-- A block was taken in a tree that is being reserved, or in the own one.

pub reserves_less : (v u w : View) (tree order free n : ℕ) → IsIdle v → HasReserved tree free v u → n ≡ 2 ^ order → 2 ^ order ≤ free
    → free ≤ 4096 → HasHandedOut tree order u w → Reserves tree (free - n) w
reserves_less v u w tree order free n idle e size enough few f = record {
  share = omega (arith, ap (λ (x : View). x.share) f, ap (λ (x : View). x.share) e, idle.share);
  paid = ap (λ x. x.paid) f ∙ ap (λ x. less tree (2 ^ order) x.paid) e ∙ less_some tree free (2 ^ order) enough
      ∙ ap (λ i. counted tree (free - i)) (sym size);
  reserving = ap (λ x. x.reserving) f ∙ ap (λ x. x.reserving) e;
  few = omega arith;
}

pub lent_and_put_down : (v u x w : View) (tree order free : ℕ) → IsIdle v → HasReserved tree free v u → HasHandedOut tree order u x
    → HasPutDown x w → HasLentOne v w
lent_and_put_down v u x w tree order free idle e f g =
    let mid : Carries v (less tree (2 ^ order) u.paid) (Some tree) (v.lent +ℤ pos 1) x =
    changed v u x (counted tree free) (less tree (2 ^ order) u.paid) (less tree (2 ^ order) u.paid) (Some tree) u.reserving (Some tree)
    v.lent (u.lent +ℤ pos 1) (v.lent +ℤ pos 1) x.moves x.lost e f refl (ap (λ y. y.reserving) e) (ap (λ y. y.lent +ℤ pos 1) e) in
    changed v x w (less tree (2 ^ order) u.paid) None v.paid (Some tree) None v.reserving (v.lent +ℤ pos 1) x.lent (v.lent +ℤ pos 1)
    w.moves w.lost mid g (sym idle.paid) (sym idle.reserving) (ap (λ y. y.lent) mid)

pub lent_own : (v u w : View) (tree order n : ℕ) → IsIdle v → n ≡ 2 ^ order → HasPaid tree n v u → HasHandedOut tree order u w
    → HasLentOne v w
lent_own v u w tree order n idle size e f =
    changed v u w (counted tree n) (less tree (2 ^ order) u.paid) v.paid v.reserving u.reserving v.reserving v.lent (u.lent +ℤ pos 1)
    (v.lent +ℤ pos 1) w.moves w.lost e f
    (ap (λ y. less tree (2 ^ order) y.paid) e ∙ ap (λ i. less tree (2 ^ order) (counted tree i)) size ∙ less_all tree (2 ^ order)
    ∙ sym idle.paid)
    (ap (λ y. y.reserving) e) (ap (λ y. y.lent +ℤ pos 1) e)

-- a view that is left as it was, and then lends one
pub then_lent : (v u w : View) → IsAsBefore v u → HasLentOne u w → HasLentOne v w
then_lent v u w e f =
    changed v u w v.paid u.paid v.paid v.reserving u.reserving v.reserving v.lent (u.lent +ℤ pos 1) (v.lent +ℤ pos 1) w.moves w.lost e f
    (ap (λ y. y.paid) e) (ap (λ y. y.reserving) e) (ap (λ y. y.lent +ℤ pos 1) e)

-- a view that is left as it was, and then pays frames or not
pub then_paid : (v u w : View) (tree n : ℕ) → IsAsBefore v u → HasPaid tree n u w → HasPaid tree n v w
then_paid v u w tree n e f =
    changed v u w v.paid (counted tree n) (counted tree n) v.reserving u.reserving v.reserving v.lent u.lent v.lent w.moves w.lost e f refl
    (ap (λ y. y.reserving) e) (ap (λ y. y.lent) e)

pub then_paid_if : (v u w : View) (tree n : ℕ) (made : Bool) → IsAsBefore v u → HasPaidIf tree n made u w → HasPaidIf tree n made v w
then_paid_if v u w tree n true e f = then_paid v u w tree n e f
then_paid_if v u w tree n false e f = before_twice v u w e f

-- a view that reserves a tree, and puts it down
pub put_down_after : (v u w : View) (tree n : ℕ) → IsIdle v → HasReserved tree n v u → HasPutDown u w → IsAsBefore v w
put_down_after v u w tree n idle e f =
    put_down_idle v w idle
    (changed v u w (counted tree n) None None (Some tree) None None v.lent u.lent v.lent w.moves w.lost e f refl refl (ap (λ x. x.lent) e))

-- A block was taken back.

pub taken_back : (v u : View) (b : FrameBlock) → IsIdle v → HasTakenBack b v u
    → Carries v (counted (tree_of b.frame) (2 ^ b.order)) v.reserving (v.lent -ℤ pos 1) u
taken_back v u b idle e =
    settled v u (more (tree_of b.frame) (2 ^ b.order) v.paid) (counted (tree_of b.frame) (2 ^ b.order)) v.reserving v.reserving
    (v.lent -ℤ pos 1) (v.lent -ℤ pos 1) e (ap (more (tree_of b.frame) (2 ^ b.order)) idle.paid ∙ more_none (tree_of b.frame) (2 ^ b.order))
    refl refl

pub taken_one : (v u w : View) (p : Option Amount) → IsIdle v → Carries v p v.reserving (v.lent -ℤ pos 1) u → HasRefunded u w
    → HasTakenOne v w
taken_one v u w p idle e f =
    changed v u w p None v.paid v.reserving u.reserving v.reserving (v.lent -ℤ pos 1) u.lent (v.lent -ℤ pos 1) w.moves w.lost e f
    (sym idle.paid) (ap (λ y. y.reserving) e) (ap (λ y. y.lent) e)

pub idle_taken_one : (v w : View) → IsIdle v → HasTakenOne v w → IsIdle w
idle_taken_one v w idle e = record {
  share = omega (arith, ap (λ (x : View). x.share) e, idle.share);
  paid = ap (λ x. x.paid) e ∙ idle.paid;
  charged = ap (λ x. x.charged) e ∙ idle.charged;
  reserving = ap (λ x. x.reserving) e ∙ idle.reserving;
  own = ap (λ x. x.own) e ∙ idle.own;
}

-- a view that took one back, and is left as it was
pub taken_one_still : (v u w : View) → HasTakenOne v u → IsAsBefore u w → HasTakenOne v w
taken_one_still v u w e f = carried_on v u w v.paid v.reserving (v.lent -ℤ pos 1) e f

-- a block of the memory lies in one of its trees
pub in_a_tree : (key : Key) (b : FrameBlock) → IsBlock key b → tree_of b.frame < tree_count key
in_a_tree key b is = omega (arith, is.inside, pow_pos b.order)

-- A give, by what its block and its tree are.

module _ (v u : View) (b : FrameBlock) (frame order tree n : ℕ) (idle : IsIdle v) (back : HasTakenBack b v u) (at : frame ≡ b.frame)
    (of : order ≡ b.order) (there : tree ≡ tree_of frame) (size : n ≡ 2 ^ order) where
  pub given : Carries v (counted tree n) v.reserving (v.lent -ℤ pos 1) u
  given =
      settled v u (counted (tree_of b.frame) (2 ^ b.order)) (counted tree n) v.reserving v.reserving (v.lent -ℤ pos 1)
      (v.lent -ℤ pos 1) (taken_back v u b idle back)
      (ap (λ i. counted i (2 ^ b.order)) (ap tree_of (sym at) ∙ sym there) ∙ ap (counted tree) (ap (λ i. 2 ^ i) (sym of) ∙ sym size))
      refl refl

  pub given_paid : u.paid ≡ counted tree n
  given_paid = ap (λ x. x.paid) given

  pub given_own : (w : View) → HasRefunded u w → HasTakenOne v w
  given_own w e = taken_one v u w (counted tree n) idle given e

  pub given_to_tree : (t : ℕ → ℕ) (x w : View) → IsAsBefore u x → w ≡ after t (tree_refund tree n) x → HasTakenOne v w
  given_to_tree t x w lost e = given_own w (refunded_tree t u x w lost tree n given_paid e)
