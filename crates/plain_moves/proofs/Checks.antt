-- What the tests of a move's conditions tell of the own view.
use Rattle.std.proofs.Common.{◌≡◌, ◌≢◌, ⊎_elim, ℕ, zero, suc, ◌+◌, ◌*◌, ◌%◌, ◌/◌, ◌^◌, ◌<◌, ◌≤◌, List, [], ◌∷◌, Bool, true, false, Option}
use Rattle.std.proofs.Common.{Some, None, get_or, length, take, refl, ap, sym, subst, ◌∙◌, arith}
use Rattle.std.specs.Prelude.{nat_eq, nat_lt, slice_get}
use Rattle.std.proofs.lemmas.Bool.Decides.{nat_tests}
use Rattle.std.proofs.lemmas.Bool.{cases_eq}
use Rattle.frame_model.specs.declared.block.FrameBlock.{FrameBlock}
use Rattle.frame_model.specs.declared.view.Amount.{Amount}
use Rattle.frame_model.specs.declared.key.Key.{Key}
use Rattle.frame_model.specs.declared.view.View.{View}
use Rattle.std.specs.List.{sum_by, list_any, All}
use Rattle.std.proofs.lemmas.List.Sums.{sum_by-cons}
use Rattle.std.proofs.Math.Logic.{∥∥₁_elim, ∥∥₁_map}
use Rattle.std.proofs.Math.Nat.{ℕ_set}
use Rattle.std.proofs.lemmas.List.Elements.{All-head, All-tail}
use Rattle.std.specs.Int.Count.{ones, count_trailing_zeros}
use Rattle.frame_model.specs.Words.{run}
use Rattle.frame_model.specs.Key.{child_of, frame_count}
use Rattle.frame_model.specs.Block.{block, IsBlock, covers, small_at, whole_at, smalls, wholes}
use Rattle.frame_model.specs.View.{count_in, names, small_in, IsAmount, NoneBut, LiesIn}
use Rattle.std.proofs.Math.Bridge.{le_prop}
use Rattle.frame_model.specs.Steps.Amounts.{Leaves}
use Rattle.frame_model.specs.Without.{without, HasFrames}
use Rattle.frame_model.proofs.Without.{without_leaves}
use Rattle.frame_model.proofs.Amounts.{names_here, names_none, names_else}
use Rattle.frame_model.proofs.Blocks.{smalls_cons, wholes_cons, smalls_none, wholes_none, in_block, small_elsewhere, whole_elsewhere}
use Rattle.frame_model.proofs.Blocks.{whole_here}
use Rattle.frame_model.proofs.Bits.{ones_run}
use Rattle.frame_model.proofs.Steps.Shared.{at-le-total, view_of}
use Rattle.plain_moves.specs.declared.plain.party.Company.{Company}
use Rattle.plain_moves.specs.Plain.{BeginsIn, SomeBeginsElse, IsOutside, Agrees}
use Rattle.plain_moves.proofs.PlainOuts.{first_counts}
use Rattle.plain_moves.proofs.PlainOwn.{run_from, run_order}

none_else : (a : Amount) (place other : ℕ) → nat_eq a.place place ≡ true → other ≢ place → count_in other (Some a) ≡ 0
unfolding count_in
none_else a place other e ne = grind (arith, nat_tests)

pub none_but_here : (amount : Option Amount) (a : Amount) (place : ℕ) → amount ≡ Some a → nat_eq a.place place ≡ true → NoneBut place amount
none_but_here amount a place is e other ne = ap (count_in other) is ∙ none_else a place other e ne

smalls_apart : (key : Key) (bs : List FrameBlock) (c x : ℕ) → All (IsBlock key) bs → All (BeginsIn c) bs
    → child_of x ≢ c → smalls x bs ≡ 0
smalls_apart key [] c x are begin ne = smalls_none x
smalls_apart key (b ∷ bs) c x are begin ne =
    let here : child_of b.frame ≡ c = All-head (BeginsIn c) b bs begin in
    omega (
      arith,
      smalls_cons x b bs,
      small_elsewhere key b (All-head (IsBlock key) b bs are) x (λ e. ne (e ∙ here)),
      smalls_apart key bs c x (All-tail (IsBlock key) b bs are) (All-tail (BeginsIn c) b bs begin) ne,
    )

wholes_apart : (bs : List FrameBlock) (c d : ℕ) → All (BeginsIn c) bs → d ≢ c → wholes d bs ≡ 0
wholes_apart [] c d begin ne = wholes_none d
wholes_apart (b ∷ bs) c d begin ne =
    let here : child_of b.frame ≡ c = All-head (BeginsIn c) b bs begin in
    omega (
      arith,
      wholes_cons d b bs,
      whole_elsewhere b d (λ e. ne (e ∙ here)),
      wholes_apart bs c d (All-tail (BeginsIn c) b bs begin) ne,
    )

module _ {them : Company} (key : Key) (words bytes : List ℕ) (v : View) where
  pub own_blocks : Agrees key them words bytes v → All (IsBlock key) v.own
  own_blocks a = (view_of key a.shares words (v ∷ a.others) 0 v a.fit refl).own

  -- what is charged and what is in flight lie in one child
  pub lies_known : (c : ℕ) → ∥ Agrees key them words bytes v ∥₁ → NoneBut c v.charged → All (BeginsIn c) v.own → LiesIn v c
  lies_known c agrees charged begin = record {
    charged = charged;
    smalls = λ x ne. ∥∥₁_elim agrees (ℕ_set _ _) (λ (a : Agrees key them words bytes v).
        smalls_apart key v.own c x (own_blocks a) begin ne);
    wholes = λ d ne. wholes_apart v.own c d begin ne;
  }

-- One block further.

sum_more : (f : FrameBlock → ℕ) (bs : List FrameBlock) (i : ℕ) (b : FrameBlock) → i < length bs → b ≡ get_or bs i b
    → sum_by f (take (i + 1) bs) ≡ sum_by f (take i bs) + f b
sum_more f [] i b h e = absurd (omega arith)
sum_more f (d ∷ ds) zero b h e = omega (arith, sum_by-cons f d [], ap f e)
sum_more f (d ∷ ds) (suc i) b h e =
    let s : suc i + 1 ≡ suc (i + 1) = omega arith in
    let r = sum_more f ds i b (omega arith) e in
    rw s (omega (arith, sum_by-cons f d (take (i + 1) ds), sum_by-cons f d (take i ds), r))

pub smalls_more : (x : ℕ) (bs : List FrameBlock) (i : ℕ) (b : FrameBlock) → i < length bs → b ≡ get_or bs i b
    → smalls x (take (i + 1) bs) ≡ smalls x (take i bs) + small_at x b
unfolding smalls
smalls_more x bs i b h e = sum_more (small_at x) bs i b h e

pub wholes_more : (c : ℕ) (bs : List FrameBlock) (i : ℕ) (b : FrameBlock) → i < length bs → b ≡ get_or bs i b
    → wholes c (take (i + 1) bs) ≡ wholes c (take i bs) + whole_at c b
unfolding wholes
wholes_more c bs i b h e = sum_more (whole_at c) bs i b h e

-- no number of the list is a word of the child
pub unfilled_known : (child : ℕ) (ns : List ℕ) → All (IsOutside child) ns → (word : ℕ) → word / 8 ≡ child → names word ns ≡ 0
unfilled_known child [] all word e = names_none word
unfilled_known child (n ∷ ns) all word e =
    let ne : word ≢ n = (λ q. All-head (IsOutside child) n ns all (ap (λ (k : ℕ). k / 8) (sym q) ∙ e)) in
    names_else word n ns ne ∙ unfilled_known child ns (All-tail (IsOutside child) n ns all) word e

pub covered : (b : FrameBlock) (x : ℕ) → covers b x ≡ 1 → (b.frame ≤ x) × (x < b.frame + 2 ^ b.order)
unfolding covers
covered b x e = (grind (arith, nat_tests), grind (arith, nat_tests))

pub shifted : (o : ℕ) → o ≤ 9 → 1 * 2 ^ o % 4294967296 ≡ 2 ^ o
shifted zero h = omega arith
shifted (suc zero) h = omega arith
shifted (suc (suc zero)) h = omega arith
shifted (suc (suc (suc zero))) h = omega arith
shifted (suc (suc (suc (suc zero)))) h = omega arith
shifted (suc (suc (suc (suc (suc zero))))) h = omega arith
shifted (suc (suc (suc (suc (suc (suc zero)))))) h = omega arith
shifted (suc (suc (suc (suc (suc (suc (suc zero))))))) h = omega arith
shifted (suc (suc (suc (suc (suc (suc (suc (suc zero)))))))) h = omega arith
shifted (suc (suc (suc (suc (suc (suc (suc (suc (suc zero))))))))) h = omega arith
shifted (suc (suc (suc (suc (suc (suc (suc (suc (suc (suc o)))))))))) h = absurd (omega arith)

module _ {them : Company} (key : Key) (words bytes : List ℕ) (v : View) (b : FrameBlock) where
  leaves_at : Agrees key them words bytes v → IsBlock key b → HasFrames v.own b → Leaves key v.own b (without b v.own)
  leaves_at a is has = without_leaves key b v.own is (own_blocks key words bytes v a) has

  -- a block whose frames are in flight can leave
  pub leaves_known : ∥ Agrees key them words bytes v ∥₁ → IsBlock key b → HasFrames v.own b
      → Leaves key v.own b (without b v.own)
  leaves_known agrees is has = record {
    smalls = λ x. ∥∥₁_elim agrees (ℕ_set _ _) (λ (a : Agrees key them words bytes v). (leaves_at a is has).smalls x);
    wholes = λ c. ∥∥₁_elim agrees (ℕ_set _ _) (λ (a : Agrees key them words bytes v). (leaves_at a is has).wholes c);
    are_blocks = λ k d h. record {
      order = ∥∥₁_elim agrees le_prop (λ (a : Agrees key them words bytes v). ((leaves_at a is has).are_blocks k d h).order);
      aligned = ∥∥₁_elim agrees (ℕ_set _ _) (λ (a : Agrees key them words bytes v). ((leaves_at a is has).are_blocks k d h).aligned);
      inside = ∥∥₁_elim agrees le_prop (λ (a : Agrees key them words bytes v). ((leaves_at a is has).are_blocks k d h).inside);
    };
  }

-- a huge frame in flight has its frames
pub child_has_frames : (c : ℕ) (bs : List FrameBlock) → 0 < wholes c bs → HasFrames bs (block (512 * c) 9)
child_has_frames c bs has = record {
  smalls = λ low. absurd (omega (arith, low));
  wholes = λ nine. let e : child_of (512 * c) ≡ c = omega arith in omega (arith, has, ap (λ d. wholes d bs) e);
}

-- a run that begins at a multiple of its size ends in its word
pub run_fits : (o from : ℕ) → o ≤ 6 → from < 64 → from % 2 ^ o ≡ 0 → from + 2 ^ o ≤ 64
run_fits zero from h low e = omega (arith, low)
run_fits (suc zero) from h low e = omega (arith, low, e)
run_fits (suc (suc zero)) from h low e = omega (arith, low, e)
run_fits (suc (suc (suc zero))) from h low e = omega (arith, low, e)
run_fits (suc (suc (suc (suc zero)))) from h low e = omega (arith, low, e)
run_fits (suc (suc (suc (suc (suc zero))))) from h low e = omega (arith, low, e)
run_fits (suc (suc (suc (suc (suc (suc zero)))))) from h low e = omega (arith, low, e)
run_fits (suc (suc (suc (suc (suc (suc (suc o))))))) from h low e = absurd (omega arith)

pub above_none : (n m : ℕ) → nat_lt 0 n ≡ true → n ≡ m → 0 < m
above_none n m e same = grind (arith, nat_tests)

-- What the tests answer where a condition does not hold.

amount_is : (a : Option Amount) → ∥ IsAmount a ∥₁ → IsAmount a
amount_is None h = tt
amount_is (Some a) h = ∥∥₁_elim h le_prop (λ x. x)

count_own : (b : Amount) → count_in b.place (Some b) ≡ b.count
unfolding count_in
count_own b = grind (arith, nat_tests)

pub none_but_not : (amount : Option Amount) (a : Amount) (place : ℕ) → amount ≡ Some a → nat_eq a.place place ≡ false
    → IsAmount amount → NoneBut place amount → ⊥
none_but_not amount a place is other some none =
    let ne : a.place ≢ place = grind (arith, nat_tests) in
    let zero : count_in a.place (Some a) ≡ 0 = ap (count_in a.place) (sym is) ∙ none a.place ne in
    let has : 0 < a.count = subst IsAmount is some in
    omega (arith, has, zero, count_own a)

module _ {them : Company} (key : Key) (words bytes : List ℕ) (v : View) (agrees : ∥ Agrees key them words bytes v ∥₁) where
  pub charged_is : IsAmount v.charged
  charged_is = amount_is v.charged (∥∥₁_map agrees (λ (a : Agrees key them words bytes v).
      (view_of key a.shares words (v ∷ a.others) 0 v a.fit refl).some_charged))

  pub paid_is : IsAmount v.paid
  paid_is = amount_is v.paid (∥∥₁_map agrees (λ (a : Agrees key them words bytes v).
      (view_of key a.shares words (v ∷ a.others) 0 v a.fit refl).some_paid))

small_of : (bs : List FrameBlock) (k x : ℕ) (b : FrameBlock) → slice_get bs k ≡ Some b → small_at x b ≤ smalls x bs
small_of [] k x b e = absurd (cc)
small_of (d ∷ ds) zero x b e = let same : d ≡ b = cc in omega (arith, smalls_cons x d ds, ap (small_at x) same)
small_of (d ∷ ds) (suc k) x b e = omega (arith, smalls_cons x d ds, small_of ds k x b e)

whole_of : (bs : List FrameBlock) (k c : ℕ) (b : FrameBlock) → slice_get bs k ≡ Some b → whole_at c b ≤ wholes c bs
whole_of [] k c b e = absurd (cc)
whole_of (d ∷ ds) zero c b e = let same : d ≡ b = cc in omega (arith, wholes_cons c d ds, ap (whole_at c) same)
whole_of (d ∷ ds) (suc k) c b e = omega (arith, wholes_cons c d ds, whole_of ds k c b e)

block_of : (key : Key) (bs : List FrameBlock) (k : ℕ) (b : FrameBlock) → All (IsBlock key) bs → slice_get bs k ≡ Some b → IsBlock key b
block_of key [] k b all e = absurd (cc)
block_of key (d ∷ ds) zero b all e = let same : d ≡ b = cc in subst (IsBlock key) same (All-head (IsBlock key) d ds all)
block_of key (d ∷ ds) (suc k) b all e = block_of key ds k b (All-tail (IsBlock key) d ds all) e

module _ {them : Company} (key : Key) (words bytes : List ℕ) (v : View) where
  lies_at : (c : ℕ) → SomeBeginsElse c v.own → LiesIn v c → Agrees key them words bytes v → ⊥
  lies_at c some l a =
      let b = some.0 in
      let first = first_counts key b (block_of key v.own some.1.0.0 b (own_blocks key words bytes v a) some.1.0.1) in
      omega (
        arith,
        first,
        small_of v.own some.1.0.0 b.frame b some.1.0.1,
        whole_of v.own some.1.0.0 (child_of b.frame) b some.1.0.1,
        l.smalls b.frame some.1.1,
        l.wholes (child_of b.frame) some.1.1,
      )

  -- a block begins elsewhere
  pub lies_not : (c : ℕ) → ∥ Agrees key them words bytes v ∥₁ → SomeBeginsElse c v.own → LiesIn v c → ⊥
  lies_not c agrees some l = ∥∥₁_elim agrees (λ (x : ⊥) y. absurd x) (lies_at c some l)

  -- a frame is in one block at most
  one_at : (x : ℕ) → x < frame_count key → Agrees key them words bytes v → smalls x v.own ≤ 1
  one_at x inside a = omega (arith, a.fit.apart x inside, at-le-total key a.shares words (v ∷ a.others) 0 v a.fit refl (small_in x))

  -- a frame of the block is in none, or in two
  pub leaves_not : (b : FrameBlock) (rest : List FrameBlock) (x : ℕ) → ∥ Agrees key them words bytes v ∥₁ → IsBlock key b → b.order < 9
      → b.frame ≤ x → x < b.frame + 2 ^ b.order → smalls x v.own ≢ 1 → Leaves key v.own b rest → ⊥
  leaves_not b rest x agrees is low from to other l =
      let most = ∥∥₁_elim agrees le_prop (one_at x (omega (arith, is.inside, to))) in
      other (omega (arith, l.smalls x, in_block x b low from to, most))

-- the child is not in flight
pub whole_not : (key : Key) (own rest : List FrameBlock) (c : ℕ) → wholes c own ≡ 0 → Leaves key own (block (512 * c) 9) rest → ⊥
whole_not key own rest c none l = omega (arith, l.wholes c, whole_here c, none)

pub huge_not : (key : Key) (own rest : List FrameBlock) (frame : ℕ) → IsBlock key (block frame 9) → wholes (frame / 512) own ≡ 0
    → Leaves key own (block frame 9) rest → ⊥
huge_not key own rest frame is none l =
    let at : frame ≡ 512 * (frame / 512) = omega (arith, is.aligned) in
    whole_not key own rest (frame / 512) none (subst (λ (f : ℕ). Leaves key own (block f 9) rest) at l)

pub names_at : (ns : List ℕ) (k n : ℕ) → k < length ns → n ≡ get_or ns k n → names n ns ≡ 1
names_at [] k n h e = absurd (omega arith)
names_at (m ∷ ns) zero n h e = subst (λ (j : ℕ). names n (j ∷ ns) ≡ 1) e (names_here n ns)
names_at (m ∷ ns) (suc k) n h e = ⊎_elim
    (λ (same : n ≡ m). subst (λ (j : ℕ). names n (j ∷ ns) ≡ 1) same (names_here n ns))
    (λ ne. names_else n m ns ne ∙ names_at ns k n (omega arith) e)
    (cases_eq n m)

pub names_not : (n : ℕ) (ns : List ℕ) → list_any (λ m. nat_eq m n) ns ≡ false → names n ns ≡ 0
names_not n [] e = names_none n
names_not n (m ∷ ns) e = by (nat_eq m n) refl e (names_not n ns)
  where
    by : (b : Bool) → nat_eq m n ≡ b → list_any (λ j. nat_eq j n) (m ∷ ns) ≡ false
        → (list_any (λ j. nat_eq j n) ns ≡ false → names n ns ≡ 0) → names n (m ∷ ns) ≡ 0
    by true is e next = absurd (grind (arith, nat_tests))
    by false is e next = names_else n m ns (grind (arith, nat_tests)) ∙ next (grind (arith, nat_tests))

pub below_none : (n m : ℕ) → nat_lt 0 n ≡ false → n ≡ m → m ≡ 0
below_none n m e same = grind (arith, nat_tests)

-- the bits of a run tell where it begins and its order
pub run_found : (mask f o : ℕ) → mask < 2 ^ 64 → f + 2 ^ o ≤ 64 → mask ≡ run f (2 ^ o)
    → (count_trailing_zeros 64 mask ≡ f) × (count_trailing_zeros 32 (ones mask) ≡ o)
run_found mask f o low fits e = (
  run_from mask f o low e,
  run_order mask f o (omega (arith, ap ones e ∙ ones_run f (2 ^ o), fits)) e,
)

pub same_run : (mask f o g p : ℕ) → mask < 2 ^ 64 → f + 2 ^ o ≤ 64 → mask ≡ run f (2 ^ o) → g + 2 ^ p ≤ 64 → mask ≡ run g (2 ^ p)
    → (f ≡ g) × (o ≡ p)
same_run mask f o g p low a e b d =
    let x = run_found mask f o low a e in
    let y = run_found mask g p low b d in
    (sym x.0 ∙ y.0, sym x.1 ∙ y.1)
