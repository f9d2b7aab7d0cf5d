-- The bit words that plain moves have filled: how many they are.
use Rattle.std.proofs.Common.{◌≡◌, ℕ, zero, suc, get_or, ◌*◌, ◌<◌, ◌≤◌, List, [], ◌∷◌, length, refl, ◌∙◌, arith}
use Rattle.std.specs.Prelude.{Bool, true, false, nat_eq}
use Rattle.std.specs.List.{list_any}
use Rattle.std.proofs.lemmas.Map.Keys.{IsDistinct-from_apart}
use Rattle.std.proofs.Math.Logic.{∥∥₁_elim}
use Rattle.std.proofs.Math.Bridge.{le_prop}
use Rattle.std.proofs.lemmas.Bool.Decides.{nat_tests}
use Rattle.std.proofs.lemmas.Map.Steps.{length-le_from_distinct_below}
use Rattle.frame_model.specs.declared.key.Key.{Key}
use Rattle.frame_model.specs.declared.view.View.{View}
use Rattle.frame_model.specs.View.{IsViewOf}
use Rattle.frame_model.specs.Steps.Amounts.{put_in}
use Rattle.frame_model.proofs.Amounts.{names_any}
use Rattle.frame_model.proofs.Steps.Shared.{view_of}
use Rattle.plain_moves.specs.declared.plain.party.Company.{Company}
use Rattle.plain_moves.specs.Apart.{AreApart}
use Rattle.plain_moves.specs.Plain.{Agrees}

same_test : (m n : ℕ) → nat_eq m n ≡ nat_eq n m
same_test m n = grind (arith, nat_tests)

any_turned : (n : ℕ) (ns : List ℕ) → list_any (λ m. nat_eq m n) ns ≡ list_any (nat_eq n) ns
any_turned n [] = refl
any_turned n (m ∷ ns) = rw (same_test m n, any_turned n ns) refl

none_at : (n : ℕ) (ns : List ℕ) (k d : ℕ) → list_any (λ m. nat_eq m n) ns ≡ false → k < length ns → nat_eq n (get_or ns k d) ≡ false
none_at n [] k d e h = absurd (omega arith)
none_at n (m ∷ ns) k d e h = by (nat_eq m n) refl k h e (none_at n ns)
  where
    by : (b : Bool) → nat_eq m n ≡ b → (k : ℕ) → k < length (m ∷ ns) → list_any (λ j. nat_eq j n) (m ∷ ns) ≡ false
        → ((k d : ℕ) → list_any (λ j. nat_eq j n) ns ≡ false → k < length ns → nat_eq n (get_or ns k d) ≡ false)
        → nat_eq n (get_or (m ∷ ns) k d) ≡ false
    by true q k l z f = absurd (let y = rw q at z in cc)
    by false q zero l z f = same_test n m ∙ q
    by false q (suc k) l z f = f k d (rw q at z) (omega arith)

pub distinct_put : (n : ℕ) (ns : List ℕ) → AreApart ns → AreApart (put_in n ns)
distinct_put n ns apart = by (list_any (λ m. nat_eq m n) ns) refl
  where
    more : list_any (λ m. nat_eq m n) ns ≡ false → AreApart (n ∷ ns)
    more h i zero d l q = absurd (omega arith)
    more h zero (suc j) d l q = none_at n ns j d h (omega arith)
    more h (suc i) (suc j) d l q = apart i j d (omega arith) (omega arith)

    by : (b : Bool) → list_any (λ m. nat_eq m n) ns ≡ b → AreApart (put_in n ns)
    by true h = rw h apart
    by false h = rw h (more h)

few_at : {them : Company} (key : Key) (words bytes : List ℕ) (v : View) → Agrees key them words bytes v → AreApart v.filled
    → length v.filled ≤ 8 * key.children
few_at {them = them} key words bytes v a d =
    let i : IsViewOf key v = view_of key a.shares words (v ∷ a.others) 0 v a.fit refl in
    length-le_from_distinct_below v.filled (8 * key.children) (IsDistinct-from_apart nat_eq v.filled d)
    (λ q e. (i.filled q (omega (arith, names_any q v.filled (any_turned q v.filled ∙ e)))).inside)

-- at most all bit words are filled
pub few_filled : {them : Company} (key : Key) (words bytes : List ℕ) (v : View) → ∥ Agrees key them words bytes v ∥₁
    → ∥ AreApart v.filled ∥₁ → length v.filled ≤ 8 * key.children
few_filled {them = them} key words bytes v agrees distinct =
    ∥∥₁_elim agrees le_prop (λ (a : Agrees key them words bytes v). ∥∥₁_elim distinct le_prop (few_at key words bytes v a))
