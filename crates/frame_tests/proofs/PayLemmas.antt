-- What paying, a pair of a take and a give, and a refund do to the view.
use Rattle.std.proofs.Common.{◌≡◌, ℕ, ◌^◌, ◌<◌, ◌≤◌, Option, None, refl, ap, sym, subst, ◌∙◌, arith}
use Rattle.std.proofs.Math.IntN.{+ℤ-neg_ℤ_cancel}
use Rattle.std.specs.Prelude.{ℤ, pos, ◌+ℤ◌, ◌-ℤ◌}
use Rattle.std.proofs.lemmas.Bool.Decides.{nat_tests}
use Rattle.std.proofs.lemmas.Nat.{pow_pos}
use Rattle.frame_words.specs.Words.{free_in}
use Rattle.frame_model.specs.declared.block.FrameBlock.{FrameBlock}
use Rattle.frame_model.specs.declared.key.Key.{Key}
use Rattle.frame_model.specs.declared.view.Amount.{Amount}
use Rattle.frame_model.specs.declared.view.View.{View}
use Rattle.frame_model.specs.Block.{IsBlock}
use Rattle.frame_model.specs.Key.{tree_count, tree_of}
use Rattle.frame_model.specs.View.{counted, count_in, paid_on, NoneBut}
use Rattle.frame_model.specs.Steps.{tree_pay, tree_refund}
use Rattle.frame_model.specs.Steps.Amounts.{more, less}
use Rattle.frame_model.specs.Steps.Conditions.{CanTreePay, CanTreeRefund}
use Rattle.frame_core.specs.Moves.{after}
use Rattle.frame_model.proofs.Amounts.{count_none, count_here}
use Rattle.low_frames.specs.Takes.{IsAsBefore, HasHandedOut}
use Rattle.low_frames.specs.Gives.{HasTakenBack}
use Rattle.frame_tests.specs.Work.{PaysOnly, PaysNothing, LendsOne, HasOneBack}

-- Amounts.

more_of_none : (t n : ℕ) → more t n None ≡ counted t n
unfolding more
more_of_none t n = refl

less_of_all : (t n : ℕ) → less t n (counted t n) ≡ None
unfolding less counted
less_of_all t n = grind (arith, nat_tests)

paid_again : (t n : ℕ) (a : Option Amount) → a ≡ counted t n → more t n (less t n a) ≡ a
paid_again t n a e =
    ap (λ b. more t n (less t n b)) e ∙ ap (more t n) (less_of_all t n) ∙ more_of_none t n ∙ sym e

pub none_but_none : (t : ℕ) (a : Option Amount) → a ≡ None → NoneBut t a
none_but_none t a e other ne = ap (count_in other) e ∙ count_none other

-- what is paid, and only in the tree
pub paid_there : (t n : ℕ) (v : View) → v.paid ≡ counted t n → paid_on t v ≡ n
paid_there t n v e = ap (count_in t) e ∙ count_here t n

-- Views.

pub can_pay : (key was : Key) (tree seen n : ℕ) (v w : View) → key ≡ was → tree < tree_count was
    → IsAsBefore v w → v.paid ≡ None → n ≤ free_in seen → CanTreePay key w tree seen n
can_pay key was tree seen n v w k inside before none enough = record {
  inside = subst (λ (x : Key). tree < tree_count x) (sym k) inside;
  enough = enough;
  paid = none_but_none tree w.paid (ap (λ x. x.paid) before ∙ none);
}

pub pays : (t : ℕ → ℕ) (tree seen k n : ℕ) (v w x : View) → k ≡ n → v.paid ≡ None → IsAsBefore v w
    → x ≡ after t (tree_pay tree seen k) w → PaysOnly tree n v x
pays t tree seen k n v w x size none before e =
    let F : View → Option Amount → ℕ → ℕ → View = (λ y a m l. record y { paid = a; moves = m; lost = l }) in
    e
    ∙ ap (λ (y : View). F y (more tree k y.paid) (t w.moves) w.lost) before
    ∙ ap (λ a. F v (more tree k a) (t w.moves) w.lost) none
    ∙ ap (λ a. F v a (t w.moves) w.lost) (more_of_none tree k ∙ ap (counted tree) size)
    ∙ sym (ap (λ m. F v (counted tree n) m x.lost) (ap (λ y. y.moves) e)
    ∙ ap (λ l. F v (counted tree n) (t w.moves) l) (ap (λ y. y.lost) e))

pub can_refund : (key : Key) (tree k n : ℕ) (v : View) → k ≡ n → tree < tree_count key
    → v.paid ≡ counted tree n → CanTreeRefund key v tree k
can_refund key tree k n v size inside paid = record {
  inside = inside;
  paid = omega (arith, size, paid_there tree n v paid);
}

pub refunds : (t : ℕ → ℕ) (tree k n : ℕ) (v x : View) → k ≡ n → v.paid ≡ counted tree n
    → x ≡ after t (tree_refund tree k) v → PaysNothing v x
refunds t tree k n v x size paid e =
    let F : Option Amount → ℕ → ℕ → View = (λ a m l. record v { paid = a; moves = m; lost = l }) in
    e
    ∙ ap (λ a. F (less tree k a) (t v.moves) v.lost) paid
    ∙ ap (λ i. F (less tree i (counted tree n)) (t v.moves) v.lost) size
    ∙ ap (λ a. F a (t v.moves) v.lost) (less_of_all tree n)
    ∙ sym (ap (λ m. F None m x.lost) (ap (λ y. y.moves) e) ∙ ap (λ l. F None (t v.moves) l) (ap (λ y. y.lost) e))

pub taken_none_paid : (tree order : ℕ) (v u : View) → v.paid ≡ counted tree (2 ^ order)
    → HasHandedOut tree order v u → u.paid ≡ None
taken_none_paid tree order v u paid e =
    ap (λ x. x.paid) e ∙ ap (less tree (2 ^ order)) paid ∙ less_of_all tree (2 ^ order)

pub pair_as_before : (tree order : ℕ) (b : FrameBlock) (v u w : View) → b.order ≡ order
    → tree_of b.frame ≡ tree → v.paid ≡ counted tree (2 ^ order) → HasHandedOut tree order v u
    → HasTakenBack b u w → IsAsBefore v w
pair_as_before tree order b v u w size there paid e f =
    let F : View → Option Amount → ℤ → View = (λ y a z. record y { paid = a; lent = z; moves = w.moves; lost = w.lost }) in
    f
    ∙ ap (λ i. F u (more i (2 ^ b.order) u.paid) (u.lent -ℤ pos 1)) there
    ∙ ap (λ i. F u (more tree (2 ^ i) u.paid) (u.lent -ℤ pos 1)) size
    ∙ ap (λ (y : View). F y (more tree (2 ^ order) y.paid) (y.lent -ℤ pos 1)) e
    ∙ ap (λ a. F v a ((v.lent +ℤ pos 1) -ℤ pos 1)) (paid_again tree (2 ^ order) v.paid paid)
    ∙ ap (λ z. F v v.paid z) (+ℤ-neg_ℤ_cancel v.lent (pos 1))

-- what was paid for was handed out
pub lends_one : (tree order : ℕ) (v u w : View) → v.paid ≡ None → PaysOnly tree (2 ^ order) v u
    → HasHandedOut tree order u w → LendsOne v w
lends_one tree order v u w none paid e =
    let F : View → Option Amount → View = (λ y a. record y { paid = a; lent = y.lent +ℤ pos 1; moves = w.moves; lost = w.lost }) in
    e
    ∙ ap (λ (y : View). F y (less tree (2 ^ order) y.paid)) paid
    ∙ ap (F v) (less_of_all tree (2 ^ order) ∙ sym none)

-- what was given is paid
pub paid_back : (b : FrameBlock) (v w : View) → v.paid ≡ None → HasTakenBack b v w
    → w.paid ≡ counted (tree_of b.frame) (2 ^ b.order)
paid_back b v w none e =
    ap (λ x. x.paid) e ∙ ap (more (tree_of b.frame) (2 ^ b.order)) none ∙ more_of_none (tree_of b.frame) (2 ^ b.order)

-- and then nothing
pub has_one_back : (b : FrameBlock) (v u w : View) → v.paid ≡ None → HasTakenBack b v u → PaysNothing u w
    → HasOneBack v w
has_one_back b v u w none e f =
    f
    ∙ ap (λ (y : View). record y { paid = None; moves = w.moves; lost = w.lost }) e
    ∙ ap (λ a. record v { paid = a; lent = v.lent -ℤ pos 1; moves = w.moves; lost = w.lost }) (sym none)

-- the tree of a block is one of the memory
pub tree_is_there : (key was : Key) (b : FrameBlock) (tree : ℕ) → key ≡ was → IsBlock was b → tree ≡ tree_of b.frame
    → tree < tree_count key
tree_is_there key was b tree same is e =
    subst (λ (k : Key). tree < tree_count k) (sym same) (omega (arith, e, is.inside, pow_pos b.order))
