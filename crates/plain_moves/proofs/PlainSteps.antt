-- A step of plain moves: what it leaves of the words and of the state.
use Rattle.std.proofs.Common.{◌≡◌, ◌≢◌, ℕ, zero, suc, ◌+◌, ◌^◌, ◌<◌, ◌≤◌, List, [], ◌∷◌, Option, None, Some, get_or, set, refl, ap, sym}
use Rattle.std.proofs.Common.{subst, ◌∙◌, true, arith}
use Rattle.std.specs.Prelude.{slice_get}
use Rattle.std.specs.Option.{ForSome}
use Rattle.std.proofs.Math.Logic.{∥∥₁_elim, ∥∥₁_map}
use Rattle.std.proofs.Math.Bridge.{le_prop}
use Rattle.frame_model.specs.declared.block.FrameBlock.{FrameBlock}
use Rattle.frame_model.specs.declared.key.Key.{Key}
use Rattle.frame_model.specs.declared.view.Amount.{Amount}
use Rattle.frame_model.specs.declared.view.View.{View}
use Rattle.frame_model.specs.Key.{tree_count, size_of}
use Rattle.frame_words.specs.Words.{free_in, flag_in, lane_in, rest_in, local_word}
use Rattle.frame_model.specs.Words.{run, entry_place, tree_place, local_place, rest_of, count_on, IsRest, free_of, tree_free_of, resting_on}
use Rattle.frame_model.specs.Words.{held_in_tree}
use Rattle.frame_model.specs.View.{charged_in, paid_on}
use Rattle.frame_model.specs.Fit.{Fit}
use Rattle.frame_model.specs.Steps.{Kind, swap_local, place, seen_by, turned, IsFoundBy, IsMade, May, effect}
use Rattle.frame_model.specs.declared.place.Place.{Place}
use Rattle.frame_model.specs.declared.place.Place.TheVariants.{Entry, Bits, Tree, Local}
use Rattle.frame_core.specs.Moves.{IsPlace, HasLayout, place_of, after}
use Rattle.frame_core.specs.Mover.{IsApart, Keeps, Makes, Tries, Swaps}
use Rattle.frame_core.proofs.Apart.{apart_of}
use Rattle.std.proofs.Math.Nat.{ℕ_set}
use Rattle.frame_model.proofs.Steps.Seats.{look_keeps}
use Rattle.frame_model.proofs.Steps.Every.{kind_keeps}
use Rattle.frame_model.proofs.Steps.Shared.{at-le-total, free_of_is, huge_of_is, entry_of_is, tree_free_is, reserved_is, rest_of_is}
use Rattle.frame_model.proofs.Steps.Shared.{bit_word_is}
use Rattle.frame_model.proofs.Steps.Locals.{rest-le-resting}
use Rattle.frame_model.proofs.Amounts.{count_on_here}
use Rattle.plain_moves.specs.declared.plain.party.Company.{Company}
use Rattle.plain_moves.specs.declared.plain.PlainMoves.{PlainMoves}
use Rattle.plain_moves.specs.Plain.{plain_tick, plain_mover, Agrees}
use Rattle.plain_moves.specs.PlainLaws.{plain_fits}
use Rattle.plain_moves.specs.PlainState.{key_by, words_by, view_by}

pub got : (ws : List ℕ) (i x : ℕ) → slice_get ws i ≡ Some x → get_or ws i 0 ≡ x
got [] zero x e = absurd (cc)
got [] (suc i) x e = absurd (cc)
got (w ∷ ws) zero x e = cc
got (w ∷ ws) (suc i) x e = got ws i x e

pub reads_but : (ws : List ℕ) (p x i : ℕ) → i ≢ p → slice_get (set ws p x) i ≡ slice_get ws i
reads_but [] p x i n = refl
reads_but (w ∷ ws) zero x zero n = absurd (n refl)
reads_but (w ∷ ws) zero x (suc j) n = refl
reads_but (w ∷ ws) (suc i) x zero n = refl
reads_but (w ∷ ws) (suc i) x (suc j) n = reads_but ws i x j (λ e. n (ap suc e))

pub stepped : {them : Company} (key : Key) (words bytes : List ℕ) (v w : View) (kind : Kind) (p x : ℕ) → ∥ Agrees key them words bytes v ∥₁
    → 0 < v.share → May key kind v → IsMade kind (get_or words (place key kind) 0)
    → turned kind (get_or words (place key kind) 0) ≡ x
    → effect plain_tick kind (get_or words (place key kind) 0) v ≡ w → place key kind ≡ p
    → ∥ Agrees key them (set words p x) bytes w ∥₁
stepped {them = them} key words bytes v w kind p x agrees share may made is_word is_view is_place =
    ∥∥₁_map agrees (λ (a : Agrees key them words bytes v).
    let fit = kind_keeps plain_tick key a.shares words (v ∷ a.others) 0 v a.fit refl kind share may made in
    let now : Fit key a.shares (set words p x) (w ∷ a.others) = subst (λ (y : View). Fit key a.shares (set words p x)
    (y ∷ a.others)) is_view
    (subst (λ (y : ℕ). Fit key a.shares (set words p y) (effect plain_tick kind (get_or words (place key kind) 0) v ∷ a.others)) is_word
    (subst (λ (q : ℕ). Fit key a.shares (set words q (turned kind (get_or words (place key kind) 0)))
    (effect plain_tick kind (get_or words (place key kind) 0) v ∷ a.others)) is_place fit)) in
    record {
      others = a.others;
      shares = a.shares;
      fit = now;
      outs = a.outs;
      their_outs = a.their_outs;
      not_both = a.not_both;
      parties = a.parties;
    })

-- The bounds that the state gives.

-- what is free and what the own view charges of a child is at most all of it
charged_at : {them : Company} (key : Key) (words bytes : List ℕ) (v : View) (c : ℕ) → c < key.children → Agrees key them words bytes v
    → free_of words c + charged_in c v ≤ 512
charged_at {them = them} key words bytes v c inside a =
    omega (arith, a.fit.entries_add_up c inside, at-le-total key a.shares words (v ∷ a.others) 0 v a.fit refl (charged_in c))

pub charged_bound : {them : Company} (key : Key) (words bytes : List ℕ) (v : View) (c : ℕ) → ∥ Agrees key them words bytes v ∥₁
    → c < key.children → free_of words c + charged_in c v ≤ 512
charged_bound {them = them} key words bytes v c agrees inside = ∥∥₁_elim agrees le_prop (charged_at key words bytes v c inside)

pub paid_at : {them : Company} (key : Key) (words bytes : List ℕ) (v : View) (t : ℕ) → t < tree_count key → Agrees key them words bytes v
    → tree_free_of key words t + resting_on key words t + paid_on t v + held_in_tree key words t ≤ size_of key t
paid_at {them = them} key words bytes v t inside a =
    omega (arith, a.fit.trees_add_up t inside, at-le-total key a.shares words (v ∷ a.others) 0 v a.fit refl (paid_on t))

pub paid_bound : {them : Company} (key : Key) (words bytes : List ℕ) (v : View) (t : ℕ) → ∥ Agrees key them words bytes v ∥₁
    → t < tree_count key → tree_free_of key words t + resting_on key words t + paid_on t v
    + held_in_tree key words t ≤ size_of key t
paid_bound {them = them} key words bytes v t agrees inside = ∥∥₁_elim agrees le_prop (paid_at key words bytes v t inside)

-- a word that was seen says how many frames are free
pub free_seen : (ws : List ℕ) (c seen : ℕ) → slice_get ws (entry_place c) ≡ Some seen → free_of ws c ≡ free_in (lane_in seen c)
free_seen ws c seen e = free_of_is ws c ∙ ap free_in (entry_of_is ws c ∙ ap (λ (n : ℕ). lane_in n c) (got ws (entry_place c) seen e))

-- one word was written
pub written : (ws : List ℕ) (p q x y : ℕ) → p ≡ q → x ≡ y → ◌≡◌ {A = Option (List ℕ)} (Some (set ws p x)) (Some (set ws q y))
written ws p q x y ep ex = λ i. Some (set ws (ep i) (ex i))

-- the word of a tree
tree_at : {them : Company} (key : Key) (words bytes : List ℕ) (v : View) (t : ℕ) → t < tree_count key → Agrees key them words bytes v
    → free_in (get_or words (tree_place key t) 0) + paid_on t v ≤ 4096
tree_at {them = them} key words bytes v t inside a =
    omega (arith, paid_at key words bytes v t inside a, tree_free_is key words t)

pub tree_bound : {them : Company} (key : Key) (words bytes : List ℕ) (v : View) (t : ℕ) → ∥ Agrees key them words bytes v ∥₁
    → t < tree_count key
    → free_in (get_or words (tree_place key t) 0) + paid_on t v ≤ 4096
tree_bound {them = them} key words bytes v t agrees inside = ∥∥₁_elim agrees le_prop (tree_at key words bytes v t inside)

-- what rests in a local word names a tree of the key
rest_at : {them : Company} (key : Key) (words bytes : List ℕ) (v : View) (k : ℕ) → k < key.cores → (r : Option (ℕ × ℕ))
    → rest_in (get_or words (local_place key k) 0) ≡ r → Agrees key them words bytes v → IsRest key r
rest_at {them = them} key words bytes v k inside r e a =
    subst (IsRest key) (rest_of_is key words k ∙ e) (a.fit.words_in_range.rests k inside)

pub rest_known : {them : Company} (key : Key) (words bytes : List ℕ) (v : View) (k : ℕ) → ∥ Agrees key them words bytes v ∥₁ → k < key.cores
    → (r : Option (ℕ × ℕ)) → rest_in (get_or words (local_place key k) 0) ≡ r → IsRest key r
rest_known {them = them} key words bytes v k agrees inside None e = tt
rest_known {them = them} key words bytes v k agrees inside (Some r) e = (
  ∥∥₁_elim agrees le_prop (λ (a : Agrees key them words bytes v). (rest_at key words bytes v k inside (Some r) e a).0),
  ∥∥₁_elim agrees le_prop (λ (a : Agrees key them words bytes v). (rest_at key words bytes v k inside (Some r) e a).1),
)

-- a reservation fits a local word
pub rest_low : (key : Key) → key.children ≤ 4096 → (r : Option (ℕ × ℕ)) → IsRest key r
    → ForSome r (λ (x : ℕ × ℕ). (x.0 < 512) × (x.1 ≤ 4096))
rest_low key few None h = λ x e. absurd (cc)
rest_low key few (Some r) h = λ x e. let same : r ≡ x = cc in
    subst (λ (y : ℕ × ℕ). (y.0 < 512) × (y.1 ≤ 4096)) same (omega (arith, h.0, few), h.1)

-- what rests on a tree and what is paid there is at most all of it
resting_at : {them : Company} (key : Key) (words bytes : List ℕ) (v : View) (k t n : ℕ) → k < key.cores
    → rest_in (get_or words (local_place key k) 0) ≡ Some (t, n) → Agrees key them words bytes v → n + paid_on t v ≤ 4096
resting_at {them = them} key words bytes v k t n inside e a =
    let r : IsRest key (Some (t, n)) = rest_at key words bytes v k inside (Some (t, n)) e a in
    let is : rest_of key words k ≡ Some (t, n) = rest_of_is key words k ∙ e in
    let part = rest-le-resting key words k t inside in
    let here = ap (count_on t) is ∙ count_on_here t n in
    omega (arith, paid_at key words bytes v t r.0 a, part, here)

pub resting_bound : {them : Company} (key : Key) (words bytes : List ℕ) (v : View) (k t n : ℕ) → ∥ Agrees key them words bytes v ∥₁
    → k < key.cores → rest_in (get_or words (local_place key k) 0) ≡ Some (t, n) → n + paid_on t v ≤ 4096
resting_bound {them = them} key words bytes v k t n agrees inside e = ∥∥₁_elim agrees le_prop (resting_at key words bytes v k t n inside e)

-- of the own view only the counts of moves and losses change
pub looked : {them : Company} (key : Key) (words bytes : List ℕ) (v : View) (n l : ℕ) → ∥ Agrees key them words bytes v ∥₁
    → v.about ≡ Some key → ∥ Agrees key them words bytes (record v { moves = n; lost = l }) ∥₁
looked {them = them} key words bytes v n l agrees named =
    ∥∥₁_map agrees (λ (a : Agrees key them words bytes v).
    record {
      others = a.others;
      shares = a.shares;
      fit = look_keeps key a.shares words (v ∷ a.others) 0 v a.fit refl n l named;
      outs = a.outs;
      their_outs = a.their_outs;
      not_both = a.not_both;
      parties = a.parties;
    })

pub loaded : {them : Company} (key : Key) (words bytes : List ℕ) (v : View) (n : ℕ) → ∥ Agrees key them words bytes v ∥₁
    → v.about ≡ Some key → ∥ Agrees key them words bytes (record v { moves = n }) ∥₁
loaded key words bytes v n agrees named = looked key words bytes v n v.lost agrees named

-- every word has its layout
layout_at : {them : Company} (key : Key) (words bytes : List ℕ) (v : View) (place : Place) → IsPlace key place
    → Agrees key them words bytes v → HasLayout key place (get_or words (place_of key place) 0)
layout_at {them = them} key words bytes v (Entry c) inside a =
    let e = entry_of_is words c in (
      omega (arith, a.fit.words_in_range.free c inside, free_of_is words c, ap free_in e),
      omega (
        arith,
        a.fit.words_in_range.huge c inside,
        huge_of_is words c,
        ap flag_in e,
      ),
    )
layout_at {them = them} key words bytes v (Bits w) inside a = omega (arith, a.fit.words_in_range.bits w inside, bit_word_is key words w)
layout_at {them = them} key words bytes v (Tree t) inside a = (
  omega (arith, a.fit.words_in_range.tree_free t inside, tree_free_is key words t),
  omega (arith, a.fit.words_in_range.reserved t inside, reserved_is key words t),
)
layout_at {them = them} key words bytes v (Local k) inside a = subst (IsRest key) (rest_of_is key words k)
    (a.fit.words_in_range.rests k inside)

pub layout_known : {them : Company} (key : Key) (words bytes : List ℕ) (v : View) → ∥ Agrees key them words bytes v ∥₁ → (place : Place)
    → IsPlace key place → HasLayout key place (get_or words (place_of key place) 0)
layout_known {them = them} key words bytes v agrees (Entry c) inside = (
  ∥∥₁_elim agrees le_prop (λ (a : Agrees key them words bytes v). (layout_at key words bytes v (Entry c) inside a).0),
  ∥∥₁_elim agrees le_prop (λ (a : Agrees key them words bytes v). (layout_at key words bytes v (Entry c) inside a).1),
)
layout_known {them = them} key words bytes v agrees (Bits w) inside = ∥∥₁_elim agrees le_prop (layout_at key words bytes v (Bits w) inside)
layout_known {them = them} key words bytes v agrees (Tree t) inside = (
  ∥∥₁_elim agrees le_prop (λ (a : Agrees key them words bytes v). (layout_at key words bytes v (Tree t) inside a).0),
  ∥∥₁_elim agrees le_prop (λ (a : Agrees key them words bytes v). (layout_at key words bytes v (Tree t) inside a).1),
)
layout_known {them = them} key words bytes v agrees (Local k) inside =
    rest_known key words bytes v k agrees inside (rest_in (get_or words (local_place key k) 0)) refl

pub paid_few : {them : Company} (key : Key) (words bytes : List ℕ) (v : View) (t : ℕ) → ∥ Agrees key them words bytes v ∥₁
    → t < tree_count key → paid_on t v ≤ 4096
paid_few {them = them} key words bytes v t agrees inside = omega (arith, tree_bound key words bytes v t agrees inside)

-- What the trait tells of a step.

pub apart_known : {them : Company} (key : Key) (words bytes : List ℕ) (v : View) → ∥ Agrees key them words bytes v ∥₁ → IsApart key v
apart_known {them = them} key words bytes v agrees = record {
  disjoint = λ x. ∥∥₁_elim agrees le_prop (λ (a : Agrees key them words bytes v). (apart_of key a.shares words
      (v ∷ a.others) 0 v a.fit refl).disjoint x);
  no_boot_frame = λ x s b. ∥∥₁_elim agrees (ℕ_set _ _) (λ (a : Agrees key them words bytes v). (apart_of key a.shares words
      (v ∷ a.others) 0 v a.fit refl).no_boot_frame x s b);
  inside = λ share x p. ∥∥₁_elim agrees (ℕ_set _ _) (λ (a : Agrees key them words bytes v). (apart_of key a.shares words
      (v ∷ a.others) 0 v a.fit refl).inside share x p);
}

-- the blocks that are out, and all else but words and view, are as before
pub keeps_plain : {them : Company} (key : Key) (words words' bytes : List ℕ) (v w : View)
    → Keeps (plain_mover key them words bytes v) (plain_mover key them words' bytes w)
keeps_plain key words words' bytes v w = record {
  same_tie = refl;
  same_key = refl;
  stays_alone = λ a. a;
  stay_out = λ b out. out;
}

-- a step that is always made
pub made_by : {them : Company} (key : Key) (words bytes : List ℕ) (v w : View) (kind : Kind) (p x : ℕ) → ∥ Agrees key them words bytes v ∥₁
    → 0 < v.share → May key kind v → IsMade kind (get_or words (place key kind) 0)
    → turned kind (get_or words (place key kind) 0) ≡ x
    → effect plain_tick kind (get_or words (place key kind) 0) v ≡ w → place key kind ≡ p
    → after plain_tick kind v ≡ effect plain_tick kind (get_or words (place key kind) 0) v
    → Makes plain_tick kind (plain_mover key them words bytes v) (plain_mover key them (set words p x) bytes w)
made_by {them} key words bytes v w kind p x agrees share may made is_word is_view is_place any = record {
  keeps = keeps_plain key words (set words p x) bytes v w;
  missed = refl;
  view = sym (any ∙ is_view);
  reads = λ i n. reads_but words p x i (λ e. n (e ∙ sym is_place));
  words = λ u. written words p (place key kind) x _ (sym is_place) (sym is_word);
  recalled = λ u. written words p (place key kind) x _ (sym is_place) (sym is_word);
  fits = λ u ws e. plain_fits key them words bytes v ws agrees e;
  knows = (_, refl);
  apart = apart_known key (set words p x) bytes w
      (stepped key words bytes v w kind p x agrees share may made is_word is_view is_place);
}

found_by : (o : Option ℕ) (seen found : ℕ) → o ≡ Some seen → IsFoundBy o found → found ≡ seen
found_by None seen found e made = absurd (cc)
found_by (Some x) seen found e made = made ∙ cc

-- an exchange, which is made where one thread steps alone
pub tried_by : {them : Company} (seen : ℕ) (key : Key) (words bytes : List ℕ) (v w : View) (kind : Kind) (p x : ℕ)
    → ∥ Agrees key them words bytes v ∥₁
    → 0 < v.share → May key kind v → IsMade kind (get_or words (place key kind) 0)
    → turned kind (get_or words (place key kind) 0) ≡ x
    → effect plain_tick kind (get_or words (place key kind) 0) v ≡ w → place key kind ≡ p
    → after plain_tick kind v ≡ effect plain_tick kind (get_or words (place key kind) 0) v → seen_by kind ≡ Some seen
    → Tries plain_tick kind seen true (plain_mover key them words bytes v) (plain_mover key them (set words p x) bytes w)
tried_by seen key words bytes v w kind p x agrees share may made is_word is_view is_place any is_seen =
    let m = made_by key words bytes v w kind p x agrees share may made is_word is_view is_place any in record {
      keeps = m.keeps;
      missed = refl;
      view = m.view;
      lost = λ e. absurd (cc);
      at_will = λ never. absurd never;
      reads = m.reads;
      words = λ u. (found_by (seen_by kind) seen (get_or words (place key kind) 0) is_seen made, m.words u);
      apart = m.apart;
    }

-- a local word is put in the place of another
pub swapped_by : {them : Company} (key : Key) (words bytes : List ℕ) (v w : View) (core : ℕ) (put answer : Option (ℕ × ℕ)) (p x : ℕ)
    → ∥ Agrees key them words bytes v ∥₁ → 0 < v.share → May key (swap_local core put) v → local_word put ≡ x
    → effect plain_tick (swap_local core put) (get_or words (local_place key core) 0) v ≡ w → local_place key core ≡ p
    → rest_in (get_or words (local_place key core) 0) ≡ answer
    → Swaps plain_tick core put answer (plain_mover key them words bytes v) (plain_mover key them (set words p x) bytes w)
swapped_by key words bytes v w core put answer p x agrees share may is_word is_view is_place is = record {
  keeps = keeps_plain key words (set words p x) bytes v w;
  missed = refl;
  view = (get_or words (local_place key core) 0, is, sym is_view);
  is_rest = rest_known key words bytes v core agrees may.inside answer is;
  reads = λ i n. reads_but words p x i (λ e. n (e ∙ sym is_place));
  words = λ u. (is, written words p (local_place key core) x _ (sym is_place) (sym is_word));
  apart = apart_known key (set words p x) bytes w
      (stepped key words bytes v w (swap_local core put) p x agrees share may tt is_word is_view is_place);
}

-- what is told of the run that was found holds of each run with these bits
pub of_run : (mask r0 r1 from order : ℕ) (P : ℕ → ℕ → Type 0)
    → ((f o : ℕ) → mask ≡ run f (2 ^ o) → (r0 ≡ f) × (r1 ≡ o)) → mask ≡ run from (2 ^ order)
    → P from order → (f o : ℕ) → mask ≡ run f (2 ^ o) → P f o
of_run mask r0 r1 from order P is e h f o q =
    let a = is from order e in
    let b = is f o q in
    subst (λ x. P x o) (sym a.0 ∙ b.0) (subst (P from) (sym a.1 ∙ b.1) h)

-- The same of plain moves as they stand.

-- the own view by its parts
pub viewed : (m : PlainMoves) {p p' c c' : Option Amount} {r r' : Option ℕ} {own own' : List FrameBlock} {filled filled' : List ℕ}
    {n n' : ℕ} → p ≡ p' → c ≡ c' → r ≡ r' → own ≡ own' → filled ≡ filled' → n ≡ n'
    → record (view_by m) { paid = p; charged = c; reserving = r; own = own; filled = filled; moves = n }
    ≡ record (view_by m) { paid = p'; charged = c'; reserving = r'; own = own'; filled = filled'; moves = n' }
viewed m ep ec er eo ef en = λ i. record (view_by m) {
  paid = ep i;
  charged = ec i;
  reserving = er i;
  own = eo i;
  filled = ef i;
  moves = en i;
}

module _ (m : PlainMoves) (kind : Kind) {w : View} {p x : ℕ} (share : 0 < m.share) (may : May (key_by m) kind (view_by m))
    (made : IsMade kind (get_or (words_by m) (place (key_by m) kind) 0))
    (is_word : turned kind (get_or (words_by m) (place (key_by m) kind) 0) ≡ x)
    (is_view : effect plain_tick kind (get_or (words_by m) (place (key_by m) kind) 0) (view_by m) ≡ w)
    (is_place : p ≡ place (key_by m) kind) where
  pub steps : ∥ Agrees (key_by m) m.them (set (words_by m) p x) m.outs.items w ∥₁
  steps = stepped (key_by m) (words_by m) m.outs.items (view_by m) w kind p x m.agrees share may made is_word is_view (sym is_place)

  pub makes : after plain_tick kind (view_by m) ≡ effect plain_tick kind (get_or (words_by m) (place (key_by m) kind) 0) (view_by m)
      → Makes plain_tick kind (plain_mover (key_by m) m.them (words_by m) m.outs.items (view_by m))
      (plain_mover (key_by m) m.them (set (words_by m) p x) m.outs.items w)
  makes = made_by (key_by m) (words_by m) m.outs.items (view_by m) w kind p x m.agrees share may made is_word is_view (sym is_place)

  pub tries : {seen : ℕ}
      → after plain_tick kind (view_by m) ≡ effect plain_tick kind (get_or (words_by m) (place (key_by m) kind) 0) (view_by m)
      → seen_by kind ≡ Some seen
      → Tries plain_tick kind seen true (plain_mover (key_by m) m.them (words_by m) m.outs.items (view_by m))
      (plain_mover (key_by m) m.them (set (words_by m) p x) m.outs.items w)
  tries {seen} = tried_by seen (key_by m) (words_by m) m.outs.items (view_by m) w kind p x m.agrees share may made is_word is_view
      (sym is_place)
