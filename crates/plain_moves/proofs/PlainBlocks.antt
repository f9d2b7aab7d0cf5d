-- How a block leaves a queue of blocks that is turned round once.
use Rattle.std.proofs.Common.{◌≡◌, ◌≢◌, ◌⊎◌, inl, inr, ⊎_elim, ℕ, zero, suc, ◌+◌, ◌-◌, ◌*◌, ◌%◌, ◌^◌, ◌<◌, ◌≤◌, List, [], ◌∷◌, ◌++◌, Bool, true}
use Rattle.std.proofs.Common.{false, cond, length, get_or, drop, take, flat_map, refl, ap, sym, subst, ◌∙◌, append_assoc, append-nil, arith}
use Rattle.std.proofs.Math.Nat.{pow-suc}
use Rattle.std.specs.List.{All}
use Rattle.std.specs.Prelude.{nat_eq, not, ◌&&◌, ◌||◌, map, filter}
use Rattle.std.specs.List.{range_with_len}
use Rattle.std.specs.Int.{bit_at}
use Rattle.std.proofs.lemmas.Bool.Decides.{nat_tests}
use Rattle.std.proofs.lemmas.List.{drop_more, take_all, length-append, length-drop}
use Rattle.std.proofs.lemmas.List.Folds.{length-flat_map-take}
use Rattle.std.proofs.lemmas.List.Elements.{All-head, All-tail}
use Rattle.std.proofs.lemmas.List.Concat.{flat_map-cons}
use Rattle.frame_model.specs.declared.block.FrameBlock.{FrameBlock}
use Rattle.frame_model.specs.Block.{block, covers, single_blocks}
use Rattle.frame_model.specs.Without.{is_same, less_one, is_apart, is_inside, remains}
use Rattle.frame_model.proofs.Chosen.{chosen}
use Rattle.frame_model.proofs.Without.{less_here, less_else, true_or_false}

pub remains_apart : (b : FrameBlock) (order frame : ℕ) → is_apart b (block frame order) ≡ true
    → remains b order frame ≡ block frame order ∷ []
unfolding remains is_apart covers
remains_apart b zero frame e =
    let c : nat_eq (covers b frame) 1 ≡ false = grind (arith, nat_tests) in
    rw c refl
remains_apart b (suc order) frame e = rw e refl

pub remains_inside : (b : FrameBlock) (order frame : ℕ) → is_apart b (block frame order) ≡ false
    → (order ≡ 0) ⊎ (is_inside b (block frame order) ≡ true) → remains b order frame ≡ []
unfolding remains is_apart covers
remains_inside b zero frame e h =
    let c : nat_eq (covers b frame) 1 ≡ true = grind (arith, nat_tests) in
    rw c refl
remains_inside b (suc order) frame e (inl h) = absurd (omega arith)
remains_inside b (suc order) frame e (inr h) = rw (e, h) refl

pub remains_halves : (b : FrameBlock) (order frame : ℕ) → is_apart b (block frame order) ≡ false → 0 < order
    → is_inside b (block frame order) ≡ false
    → remains b order frame ≡ remains b (order - 1) frame ++ remains b (order - 1) (frame + 2 ^ (order - 1))
unfolding remains
remains_halves b zero frame e h n = absurd (omega arith)
remains_halves b (suc order) frame e h n = let s : suc order - 1 ≡ order = omega arith in rw (e, n, s) refl

module _ {X : Type 0} where
  -- the first of the items that are left moves away
  pub one_less : (all items after done : List X) (i : ℕ) (x : X) → i < length all → items ≡ drop i all ++ done → items ≡ x ∷ after
      → (drop i all ≡ x ∷ drop (i + 1) all) × (after ≡ drop (i + 1) all ++ done) × (x ≡ get_or all i x)
  one_less all items after done i x h is now =
      let d : drop i all ≡ get_or all i x ∷ drop (i + 1) all = drop_more all i x h in
      let s : x ∷ after ≡ get_or all i x ∷ (drop (i + 1) all ++ done) = sym now ∙ is ∙ ap (λ (l : List X). l ++ done) d in
      let e : x ≡ get_or all i x = cc in
      let f : after ≡ drop (i + 1) all ++ done = cc in
      (d ∙ ap (λ (y : X). y ∷ drop (i + 1) all) (sym e), f, e)

  pub All-at_drop : (P : X → Type 0) (all : List X) (i : ℕ) (x : X) (xs : List X) → All P all → drop i all ≡ x ∷ xs → P x
  All-at_drop P [] zero x xs a e = absurd (cc)
  All-at_drop P [] (suc i) x xs a e = absurd (cc)
  All-at_drop P (y ∷ ys) zero x xs a e = let h : y ≡ x = cc in subst P h (All-head P y ys a)
  All-at_drop P (y ∷ ys) (suc i) x xs a e = All-at_drop P ys i x xs (All-tail P y ys a) e

-- what leaves once, one item further
pub once_more : (b x : FrameBlock) (next done all : List FrameBlock) (has : Bool)
    → done ++ cond has (x ∷ next) (less_one b (x ∷ next)) ≡ all
    → cond (not has && is_same b x) done (done ++ x ∷ []) ++ cond (has || is_same b x) next (less_one b next) ≡ all
once_more b x next done all true h = append_assoc done (x ∷ []) next ∙ h
once_more b x next done all false h =
    ⊎_elim
    (λ (e : is_same b x ≡ true). rw e (ap (λ (l : List FrameBlock). done ++ l) (sym (less_here b x next e)) ∙ h))
    (λ (e : is_same b x ≡ false). rw e
    (append_assoc done (x ∷ []) (less_one b next) ∙ ap (λ (l : List FrameBlock). done ++ l) (sym (less_else b x next e)) ∙ h))
    (true_or_false (is_same b x))

-- half of the frames of a block, as a shift gives it
pub halved : (order frame : ℕ) → 0 < order → frame + 2 ^ order ≤ 2 ^ 21
    → (1 * 2 ^ (order - 1) % 4294967296 ≡ 2 ^ (order - 1)) × (frame + 2 ^ (order - 1) + 2 ^ (order - 1) ≤ 2 ^ 21)
halved zero frame h below = absurd (omega arith)
halved (suc order) frame h below =
    let s : suc order - 1 ≡ order = omega arith in
    let p = pow-suc 2 order in
    rw s (omega (arith, p, below), omega (arith, p, below))

module _ {X : Type 0} where
  pub turned_once : (c : Bool) (next done after : List X) (x : X) → after ≡ next ++ done
      → cond c after (after ++ x ∷ []) ≡ next ++ cond c done (done ++ x ∷ [])
  turned_once true next done after x e = e
  turned_once false next done after x e = ap (λ (l : List X). l ++ x ∷ []) e ∙ append_assoc next done (x ∷ [])

  none_left : (all : List X) (i : ℕ) → length all ≤ i → drop i all ≡ []
  none_left [] zero h = refl
  none_left [] (suc i) h = refl
  none_left (x ∷ xs) zero h = absurd (omega arith)
  none_left (x ∷ xs) (suc i) h = none_left xs i (omega arith)

  pub all_turned : (all items done : List X) (i : ℕ) → length all ≤ i → items ≡ drop i all ++ done → (drop i all ≡ []) × (items ≡ done)
  all_turned all items done i h is = (none_left all i h, is ∙ ap (λ (l : List X). l ++ done) (none_left all i h))

-- once all have passed, the block has left
pub once_done : (b : FrameBlock) (all items done : List FrameBlock) (i : ℕ) (has : Bool) → length all ≤ i → items ≡ drop i all ++ done
    → done ++ cond has (drop i all) (less_one b (drop i all)) ≡ less_one b all → items ≡ less_one b all
unfolding less_one
once_done b all items done i has h is sum =
    let t = all_turned all items done i h is in
    t.1 ∙ sym (append-nil done) ∙ ap (λ (l : List FrameBlock). done ++ l) (sym (nothing has))
    ∙ ap (λ (l : List FrameBlock). done ++ cond has l (less_one b l)) (sym t.0) ∙ sum
  where
    nothing : (has : Bool) → cond {A = List FrameBlock} has [] (less_one b []) ≡ []
    nothing true = refl
    nothing false = refl

-- what is cut, one item further
pub cut_more : (f : FrameBlock → List FrameBlock) (x : FrameBlock) (all after next : List FrameBlock) (i : ℕ)
    → i < length all → drop i all ≡ x ∷ drop (i + 1) all
    → flat_map f (take (i + 1) all) ≡ flat_map f (take i all) ++ f x
cut_more f x [] after next i h e = absurd (omega arith)
cut_more f x (y ∷ ys) after next zero h e =
    let is : y ≡ x = cc in
    flat_map-cons f y [] ∙ append-nil (f y) ∙ ap f is
cut_more f x (y ∷ ys) after next (suc i) h e =
    let z : suc i + 1 ≡ suc (i + 1) = omega arith in
    let r = cut_more f x ys after next i (omega arith) (rw z at e) in
    rw z (flat_map-cons f y (take (i + 1) ys) ∙ ap (λ (l : List FrameBlock). f y ++ l) r
    ∙ sym (append_assoc (f y) (flat_map f (take i ys)) (f x))
    ∙ ap (λ (l : List FrameBlock). l ++ f x) (sym (flat_map-cons f y (take i ys))))

-- what is cut has room
pub cut_room : (f : FrameBlock → List FrameBlock) (x : FrameBlock) (all after : List FrameBlock) (i room : ℕ)
    → i < length all → after ≡ drop (i + 1) all ++ flat_map f (take i all) → x ≡ get_or all i x
    → length all + length (flat_map f all) ≤ room → length after + length (f x) ≤ room
cut_room f x all after i room h is e fits =
    let l = ap (λ (k : List FrameBlock). length k) is in
    let a = length-append (drop (i + 1) all) (flat_map f (take i all)) in
    let d = length-drop (i + 1) all in
    let t = length-flat_map-take f all i x h in
    let g = ap (λ (y : FrameBlock). length (f y)) e in
    omega (arith, l, a, d, t, g, fits)

module _ {X : Type 0} where
  pub some_left : (all items done : List X) (i : ℕ) → i < length all → items ≡ drop i all ++ done → 0 < length items
  some_left all items done i h is = omega (arith, ap (λ (l : List X). length l) is, length-append (drop i all) done, length-drop i all)

-- once all have been cut, nothing else is there
pub cut_done : (f : FrameBlock → List FrameBlock) (all items : List FrameBlock) (i : ℕ) → length all ≤ i
    → items ≡ drop i all ++ flat_map f (take i all) → items ≡ flat_map f all
cut_done f all items i h is =
    (all_turned all items (flat_map f (take i all)) i h is).1 ∙ ap (λ (l : List FrameBlock). flat_map f l) (take_all i all h)

-- Single frames of a bit word.

-- those of n frames from one on whose bits the mask has
abbrev pub singles_from : ℕ → ℕ → ℕ → List FrameBlock
singles_from mask from n = chosen (λ x. block x 0) (λ x. nat_eq (bit_at mask (x % 64)) 1) from n

first_chosen : (b : Bool) (a : ℕ) (xs : List ℕ) → b ≡ true
    → map (λ x. block x 0) (cond b (a ∷ xs) xs) ≡ block a 0 ∷ map (λ x. block x 0) xs
first_chosen true a xs e = refl
first_chosen false a xs e = absurd (let f : false ≡ true = e in cc)

first_left : (b : Bool) (a : ℕ) (xs : List ℕ) → b ≡ false
    → map (λ x. block x 0) (cond b (a ∷ xs) xs) ≡ map (λ x. block x 0) xs
first_left false a xs e = refl
first_left true a xs e = absurd (let f : true ≡ false = e in cc)

is_one : (n : ℕ) → n ≡ 1 → nat_eq n 1 ≡ true
is_one n e = grind (arith, nat_tests)

is_not_one : (n : ℕ) → n ≢ 1 → nat_eq n 1 ≡ false
is_not_one n e = grind (arith, nat_tests)

pub single_more : (mask from n : ℕ) → bit_at mask (from % 64) ≡ 1
    → singles_from mask from (suc n) ≡ block from 0 ∷ singles_from mask (from + 1) n
single_more mask from n has =
    first_chosen (nat_eq (bit_at mask (from % 64)) 1) from
    (filter (λ x. nat_eq (bit_at mask (x % 64)) 1) (range_with_len (from + 1) n)) (is_one (bit_at mask (from % 64)) has)

pub single_skipped : (mask from n : ℕ) → bit_at mask (from % 64) ≢ 1 → singles_from mask from (suc n) ≡ singles_from mask (from + 1) n
single_skipped mask from n has =
    first_left (nat_eq (bit_at mask (from % 64)) 1) from
    (filter (λ x. nat_eq (bit_at mask (x % 64)) 1) (range_with_len (from + 1) n)) (is_not_one (bit_at mask (from % 64)) has)

pub all_singles : (word mask : ℕ) → singles_from mask (64 * word) 64 ≡ single_blocks word mask
unfolding single_blocks
all_singles word mask = refl
