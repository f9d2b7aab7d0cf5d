-- What slots hold, after one is emptied or filled.
use Rattle.std.proofs.Common.{ℕ, zero, suc, ◌+◌, ◌≡◌, ◌<◌, ◌≤◌, ◌⊎◌, inl, inr, true, false, List}
use Rattle.std.proofs.Common.{[], ◌∷◌, ◌++◌, length, take, drop, get_or, set, Option, Some, None}
use Rattle.std.proofs.Common.{sym, ap, ◌∙◌, refl, arith, append_assoc, length-append, add-zero}
use Rattle.std.specs.Option.{is_some, option_to_list}
use Rattle.std.specs.List.{All, AllByRecursion}
use Rattle.std.proofs.lemmas.Bool.{cases_eq, cases_lt}
use Rattle.std.proofs.lemmas.List.{get_or-drop, drop-drop, take_more, append-nil, get_or_default}
use Rattle.std.proofs.lemmas.List.{get_or_at, get_or-set_same, get_or-set_other, set_past}
use Rattle.std.proofs.lemmas.List.{get_or_past, get_or_append_left, get_or_push, length_push}
use Rattle.std.proofs.lemmas.List.{drop_more}
use Rattle.std.proofs.lemmas.List.Concat.{flat_map-append}
use Rattle.std.proofs.lemmas.List.Elements.{All-from_recursion, recursion_from_All}
use Rattle.held_blocks.specs.LabelledBlocks.{HasNone, TakesFirst}
use Rattle.held_blocks.specs.Slots.{held, StandsAt, IsFirstAt}

pub held_push : {T : Type 0} (slots : List (Option T)) (x : T)
    → held (slots ++ Some x ∷ []) ≡ held slots ++ x ∷ []
held_push slots x = flat_map-append option_to_list slots (Some x ∷ [])

-- the entry of a slot stands between those of the slots before and after it
pub held_at : {T : Type 0} (slots : List (Option T)) (i : ℕ) (e : T) → StandsAt slots i e
    → held slots ≡ held (take i slots) ++ e ∷ held (drop (suc i) slots)
held_at [] i e h = cc
held_at (s ∷ ss) zero e h = rw h refl
held_at (s ∷ ss) (suc i) e h =
    ap (λ l. option_to_list s ++ l) (held_at ss i e h)
    ∙ sym (append_assoc (option_to_list s) (held (take i ss)) (e ∷ held (drop (suc i) ss)))

pub held_without : {T : Type 0} (slots : List (Option T)) (i : ℕ)
    → held (set slots i None) ≡ held (take i slots) ++ held (drop (suc i) slots)
held_without [] zero = refl
held_without [] (suc i) = refl
held_without (s ∷ ss) zero = refl
held_without (s ∷ ss) (suc i) =
    ap (λ l. option_to_list s ++ l) (held_without ss i)
    ∙ sym (append_assoc (option_to_list s) (held (take i ss)) (held (drop (suc i) ss)))

-- no more entries than slots
pub length-held : {T : Type 0} (slots : List (Option T)) → length (held slots) ≤ length slots
length-held [] = omega arith
length-held (None ∷ ss) = omega (arith, length-held ss)
length-held (Some x ∷ ss) = omega (arith, length-held ss)

pub held_less : {T : Type 0} (slots : List (Option T)) (i : ℕ) (e : T) → StandsAt slots i e
    → length (held (set slots i None)) + 1 ≡ length (held slots)
held_less slots i e h =
    let was = ap length (held_at slots i e h) ∙ length-append (held (take i slots)) (e ∷ held (drop (suc i) slots)) in
    let now = ap length (held_without slots i) ∙ length-append (held (take i slots)) (held (drop (suc i) slots)) in
    omega arith

-- P holds for no entry, if for the entry of no slot
pub none_held : {T : Type 0} (P : T → Type 0) (slots : List (Option T))
    → ((j : ℕ) (f : T) → StandsAt slots j f → ¬ P f) → HasNone P (held slots)
none_held P slots h = All-from_recursion (λ x. ¬ P x) (held slots) (go slots h)
  where
    go : (ss : List (Option _)) → ((j : ℕ) (f : _) → StandsAt ss j f → ¬ P f)
        → AllByRecursion (λ x. ¬ P x) (held ss)
    go [] h = tt
    go (None ∷ ss) h = go ss (λ j f e. h (suc j) f e)
    go (Some x ∷ ss) h = (h 0 x refl, go ss (λ j f e. h (suc j) f e))

-- what holds for each entry holds for the entry of a slot
pub all_at : {T : Type 0} (P : T → Type 0) (slots : List (Option T)) (i : ℕ) (e : T)
    → All P (held slots) → StandsAt slots i e → P e
all_at P slots i e all h = go slots i e (recursion_from_All P (held slots) all) h
  where
    go : (ss : List (Option _)) (i : ℕ) (e : _) → AllByRecursion P (held ss) → StandsAt ss i e → P e
    go [] i e a h = cc
    go (None ∷ ss) zero e a h = cc
    go (None ∷ ss) (suc i) e a h = go ss i e a h
    go (Some x ∷ ss) zero e a h = let same : x ≡ e = cc in rw (← same) a.0
    go (Some x ∷ ss) (suc i) e a h = go ss i e a.1 h

pub below_from_some : {T : Type 0} (slots : List (Option T)) (j : ℕ) (f : T) → StandsAt slots j f
    → j < length slots
below_from_some [] j f h = cc
below_from_some (s ∷ ss) zero f h = omega arith
below_from_some (s ∷ ss) (suc j) f h = omega (arith, below_from_some ss j f h)

-- an entry of the first slots, among all
pub take_some : {T : Type 0} (slots : List (Option T)) (i j : ℕ) (f : T)
    → StandsAt (take i slots) j f → (j < i) × StandsAt slots j f
take_some [] zero j f h = cc
take_some [] (suc i) j f h = cc
take_some (s ∷ ss) zero j f h = cc
take_some (s ∷ ss) (suc i) zero f h = (omega arith, h)
take_some (s ∷ ss) (suc i) (suc j) f h = let r = take_some ss i j f h in (omega arith, r.1)

-- the entry of a slot that is emptied leaves, and it was the first of its kind
pub takes_first : {T : Type 0} (P : T → Type 0) (slots : List (Option T)) (i : ℕ) (e : T)
    → IsFirstAt P slots i → StandsAt slots i e
    → TakesFirst P (held slots) e (held (set slots i None))
takes_first P slots i e found stands =
    let same : found.entry ≡ e = let a = found.stands in cc in
    record {
      front = held (take i slots);
      back = held (drop (suc i) slots);
      was = held_at slots i e stands;
      stays = held_without slots i;
      holds = rw same at found.holds;
      first = none_held P (take i slots) (λ j f h. let r = take_some slots i j f h in found.before j f r.0 r.1);
    }

-- a live slot has an entry
pub some_from : {T : Type 0} (o : Option T) → is_some o ≡ true → (e : T) × (o ≡ Some e)
some_from None h = cc
some_from (Some x) h = (x, refl)

pub none_from : {T : Type 0} (o : Option T) → is_some o ≡ false → o ≡ None
none_from None h = refl
none_from (Some x) h = cc

-- the slots other than an emptied one
pub still : {T : Type 0} (slots : List (Option T)) (i j : ℕ) (e : T)
    → StandsAt (set slots i None) j e → StandsAt slots j e
still slots i j e h =
    elim (cases_eq j i) [
      | inl same ↦
          elim (cases_lt i (length slots)) [
            | inl b ↦
                let none : get_or (set slots i None) j None ≡ None =
                ap (λ k. get_or (set slots i None) k None) same ∙ get_or-set_same slots i None None b in absurd (cc)
            | inr b ↦ sym (ap (λ l. get_or l j None) (set_past slots i None b)) ∙ h
          ]
      | inr ne ↦ sym (get_or-set_other slots i j None None ne) ∙ h
    ]

-- after one more, an entry is an old one or the new one
pub old_or_new : {T : Type 0} (slots : List (Option T)) (x : T) (j : ℕ) (e : T)
    → StandsAt (slots ++ Some x ∷ []) j e
    → ((j < length slots) × StandsAt slots j e) ⊎ ((j ≡ length slots) × (x ≡ e))
old_or_new slots x j e h =
    elim (cases_lt j (length slots)) [
      | inl b ↦ inl (b, sym (get_or_append_left slots (Some x ∷ []) None j b) ∙ h)
      | inr b ↦
          elim (cases_eq j (length slots)) [
            | inl same ↦
                let new : get_or (slots ++ Some x ∷ []) j None ≡ Some x = get_or_push slots (Some x) None j (sym same) in
                inr (same, cc)
            | inr ne ↦
                let past : length (slots ++ Some x ∷ []) ≤ j = omega (arith, length_push slots (Some x)) in
                let none : get_or (slots ++ Some x ∷ []) j None ≡ None = get_or_past (slots ++ Some x ∷ []) j None past in
                absurd (cc)
          ]
    ]

held_more : {T : Type 0} (slots : List (Option T)) (i : ℕ) → i < length slots
    → held (take (i + 1) slots) ≡ held (take i slots) ++ option_to_list (get_or slots i None)
held_more slots i b =
    ap held (take_more slots i None b) ∙ flat_map-append option_to_list (take i slots) (get_or slots i None ∷ [])
    ∙ ap (λ l. held (take i slots) ++ l) (append-nil (option_to_list (get_or slots i None)))

pub read_rest : {T : Type 0} (slots old : List (Option T)) (i : ℕ) → drop i slots ≡ drop i old
    → get_or slots i None ≡ get_or old i None
read_rest slots old i e =
    let a : get_or (drop i slots) 0 None ≡ get_or slots i None = get_or-drop i slots 0 None ∙ ap (λ k. get_or slots k None) (add-zero i) in
    let b : get_or (drop i old) 0 None ≡ get_or old i None = get_or-drop i old 0 None ∙ ap (λ k. get_or old k None) (add-zero i) in
    sym a ∙ ap (λ l. get_or l 0 None) e ∙ b

pub rest_more : {T : Type 0} (slots old : List (Option T)) (i : ℕ) → drop i slots ≡ drop i old
    → drop (i + 1) slots ≡ drop (i + 1) old
rest_more slots old i e = sym (drop-drop 1 i slots) ∙ ap (drop 1) e ∙ drop-drop 1 i old

-- one more slot of which the entry moves
pub moved_some : {T : Type 0} (old : List (Option T)) (i : ℕ) (e : T) → StandsAt old i e
    → held (take (i + 1) old) ≡ held (take i old) ++ e ∷ []
moved_some old i e h = held_more old i (below_from_some old i e h) ∙ ap (λ o. held (take i old) ++ option_to_list o) h

-- one more slot with no entry
pub moved_none : {T : Type 0} (old : List (Option T)) (i : ℕ) → i < length old
    → get_or old i None ≡ None → held (take (i + 1) old) ≡ held (take i old)
moved_none old i b h = held_more old i b ∙ ap (λ o. held (take i old) ++ option_to_list o) h ∙ append-nil (held (take i old))

pub read_held : {T : Type 0} (slots : List (Option T)) (i place : ℕ) (read : Option T) (e d : T)
    → i < length slots → read ≡ get_or slots i read → read ≡ Some e
    → length (held (take i slots)) ≡ place → get_or (held slots) place d ≡ e
read_held slots i place read e d b is some size =
    let h : get_or slots i None ≡ Some e = get_or_default slots i None read b ∙ sym is ∙ some in
    ap (λ l. get_or l place d) (held_at slots i e h) ∙ get_or_at (held (take i slots)) e (held (drop (suc i) slots)) d place size

-- the entries from a slot on
pub rest_some : {T : Type 0} (old : List (Option T)) (i : ℕ) (e : T) → StandsAt old i e
    → held (drop i old) ≡ e ∷ held (drop (i + 1) old)
rest_some old i e h = ap held (drop_more old i None (below_from_some old i e h)) ∙ ap (λ o. option_to_list o ++ held (drop (i + 1) old)) h

pub rest_none : {T : Type 0} (old : List (Option T)) (i : ℕ) → i < length old
    → get_or old i None ≡ None → held (drop i old) ≡ held (drop (i + 1) old)
rest_none old i b h = ap held (drop_more old i None b) ∙ ap (λ o. option_to_list o ++ held (drop (i + 1) old)) h

-- an element that was read from a slot
pub read_slot : {T : Type 0} (slots : List (Option T)) (i : ℕ) (read : Option T)
    → i < length slots → read ≡ get_or slots i read → get_or slots i None ≡ read
read_slot slots i read b is = get_or_default slots i None read b ∙ sym is
