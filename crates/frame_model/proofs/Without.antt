-- What remains of a list of blocks that a block leaves.
use Rattle.std.proofs.Common.{◌≡◌, ◌≢◌, ◌⊎◌, inl, inr, ⊎_elim, ℕ, zero, suc, ◌+◌, ◌*◌, ◌/◌, ◌%◌, ◌^◌, ◌<◌, ◌≤◌, List, [], ◌∷◌, ◌++◌, length}
use Rattle.std.proofs.Common.{get_or, Bool, true, false, refl, ap, sym, subst, ◌∙◌, arith}
use Rattle.std.specs.Prelude.{Contains, if◌then◌else◌, cond, flat_map}
use Rattle.std.specs.List.{sum_by, All}
use Rattle.std.proofs.lemmas.Bool.{cases_lt}
use Rattle.std.proofs.lemmas.Bool.Decides.{nat_tests}
use Rattle.std.proofs.lemmas.List.Sums.{sum_by-cons}
use Rattle.std.proofs.lemmas.Nat.{pow_pos}
use Rattle.std.proofs.Math.Nat.{pow-suc}
use Rattle.std.proofs.lemmas.List.Elements.{All-head, All-tail, All-cons, All-append, All-nil}
use Rattle.frame_model.specs.declared.block.FrameBlock.{FrameBlock}
use Rattle.frame_model.specs.declared.key.Key.{Key}
use Rattle.frame_model.specs.Key.{child_of}
use Rattle.frame_model.specs.Block.{block, IsBlock, covers, small_at, whole_at, smalls, wholes}
use Rattle.frame_model.specs.Steps.Amounts.{Leaves}
use Rattle.frame_model.specs.Without.{is_same, times, less_one, is_apart, is_inside, remains, remainder, without, HasFrames}
use Rattle.frame_model.proofs.Blocks.{smalls_cons, wholes_cons, smalls_none, wholes_none, smalls_both, wholes_both, in_block, before_block}
use Rattle.frame_model.proofs.Blocks.{behind_block, not_whole, halves}

-- The same block.

same_frame : (b d : FrameBlock) → is_same b d ≡ true → b.frame ≡ d.frame
unfolding is_same
same_frame b d e = grind (arith, nat_tests)

same_order : (b d : FrameBlock) → is_same b d ≡ true → b.order ≡ d.order
unfolding is_same
same_order b d e = grind (arith, nat_tests)

same_is : (b d : FrameBlock) → is_same b d ≡ true → b ≡ d
same_is b d e = ap (λ f. block f b.order) (same_frame b d e) ∙ ap (λ o. block d.frame o) (same_order b d e)

times_here : (b d : FrameBlock) (blocks : List FrameBlock) → is_same b d ≡ true → times b (d ∷ blocks) ≡ suc (times b blocks)
unfolding times
times_here b d blocks e =
    omega (
      arith,
      sum_by-cons (λ (k : FrameBlock). if is_same b k then 1 else 0) d blocks,
      ap (λ (z : Bool). cond {A = ℕ} z 1 0) e,
    )

times_else : (b d : FrameBlock) (blocks : List FrameBlock) → is_same b d ≡ false → times b (d ∷ blocks) ≡ times b blocks
unfolding times
times_else b d blocks e =
    omega (
      arith,
      sum_by-cons (λ (k : FrameBlock). if is_same b k then 1 else 0) d blocks,
      ap (λ (z : Bool). cond {A = ℕ} z 1 0) e,
    )

times_none : (b : FrameBlock) → times b [] ≡ 0
unfolding times
times_none b = refl

pub less_here : (b d : FrameBlock) (blocks : List FrameBlock) → is_same b d ≡ true → less_one b (d ∷ blocks) ≡ blocks
unfolding less_one
less_here b d blocks e = rw e refl

pub less_else : (b d : FrameBlock) (blocks : List FrameBlock) → is_same b d ≡ false → less_one b (d ∷ blocks) ≡ d ∷ less_one b blocks
unfolding less_one
less_else b d blocks e = rw e refl

pub true_or_false : (b : Bool) → (b ≡ true) ⊎ (b ≡ false)
true_or_false true = inl refl
true_or_false false = inr refl

is_itself : (b : FrameBlock) → is_same b b ≡ true
unfolding is_same
is_itself b = grind (arith, nat_tests)

stands_at : (blocks : List FrameBlock) (b : FrameBlock) (k : ℕ) → k < length blocks → get_or blocks k b ≡ b → 0 < times b blocks
stands_at [] b k h e = absurd (omega arith)
stands_at (d ∷ blocks) b zero h e = omega (arith, times_here b d blocks (ap (is_same b) e ∙ is_itself b))
stands_at (d ∷ blocks) b (suc k) h e =
    let there : 0 < times b blocks = stands_at blocks b k (omega arith) e in
    ⊎_elim (λ s. omega (arith, times_here b d blocks s)) (λ s. omega (arith, times_else b d blocks s, there)) (true_or_false (is_same b d))

-- a block of a list stands in it
pub contains_times : (blocks : List FrameBlock) (b : FrameBlock) → Contains blocks b → 0 < times b blocks
contains_times blocks b has = stands_at blocks b has.0 has.1 has.2

-- what holds of all blocks of a list holds of one that stands in it
times_all : (P : FrameBlock → Type 0) (b : FrameBlock) (blocks : List FrameBlock) → All P blocks → 0 < times b blocks → P b
times_all P b [] are h = absurd (omega (arith, times_none b))
times_all P b (d ∷ blocks) are h =
    ⊎_elim
    (λ e. subst P (sym (same_is b d e)) (All-head P d blocks are))
    (λ e. times_all P b blocks (All-tail P d blocks are) (omega (arith, times_else b d blocks e)))
    (true_or_false (is_same b d))

-- every sum over a list loses what the block adds to it
sum_less : (f : FrameBlock → ℕ) (b : FrameBlock) (blocks : List FrameBlock) → 0 < times b blocks
    → sum_by f (less_one b blocks) + f b ≡ sum_by f blocks
sum_less f b [] h = absurd (omega (arith, times_none b))
sum_less f b (d ∷ blocks) h =
    ⊎_elim
    (λ e. omega (arith, ap (sum_by f) (less_here b d blocks e), ap f (same_is b d e), sum_by-cons f d blocks))
    (λ e. omega (
      arith,
      ap (sum_by f) (less_else b d blocks e),
      sum_by-cons f d blocks,
      sum_by-cons f d (less_one b blocks),
      sum_less f b blocks (omega (arith, times_else b d blocks e)),
    ))
    (true_or_false (is_same b d))

less_all : (P : FrameBlock → Type 0) (b : FrameBlock) (blocks : List FrameBlock) → All P blocks → All P (less_one b blocks)
unfolding less_one
less_all P b [] are = are
less_all P b (d ∷ blocks) are =
    ⊎_elim
    (λ e. subst (All P) (sym (less_here b d blocks e)) (All-tail P d blocks are))
    (λ e. subst (All P) (sym (less_else b d blocks e))
    (All-cons P d (less_one b blocks) (All-head P d blocks are) (less_all P b blocks (All-tail P d blocks are))))
    (true_or_false (is_same b d))

-- a block that stands in a list of blocks of the key is one
pub times_blocks : (key : Key) (b : FrameBlock) (blocks : List FrameBlock) → All (IsBlock key) blocks → 0 < times b blocks → IsBlock key b
times_blocks key b blocks are h = times_all (IsBlock key) b blocks are h

-- the list without a block that stands in it
pub less_one_leaves : (key : Key) (b : FrameBlock) (blocks : List FrameBlock) → All (IsBlock key) blocks
    → 0 < times b blocks → Leaves key blocks b (less_one b blocks)
unfolding smalls wholes
less_one_leaves key b blocks are h = record {
  smalls = λ x. sum_less (small_at x) b blocks h;
  wholes = λ c. sum_less (whole_at c) b blocks h;
  are_blocks = less_all (IsBlock key) b blocks are;
}

-- Frames.

pub covers-le : (b : FrameBlock) (x : ℕ) → covers b x ≤ 1
unfolding covers
covers-le b x = grind (arith, nat_tests)

small_covers : (x : ℕ) (b : FrameBlock) → b.order < 9 → small_at x b ≡ covers b x
unfolding small_at
small_covers x b h = grind (arith, nat_tests)

small_huge : (x : ℕ) (b : FrameBlock) → 9 ≤ b.order → small_at x b ≡ 0
unfolding small_at
small_huge x b h = grind (arith, nat_tests)

apart_small : (b d : FrameBlock) (x : ℕ) → is_apart b d ≡ true → covers b x ≡ 1 → small_at x d ≡ 0
unfolding is_apart covers small_at
apart_small b d x e h = grind (arith, nat_tests)

inside_small : (b d : FrameBlock) (x : ℕ) → is_inside b d ≡ true → covers b x ≡ 0 → small_at x d ≡ 0
unfolding is_inside covers small_at
inside_small b d x e h = grind (arith, nat_tests)

-- a frame is a block of order 0 that holds no other
other_frame : (f x : ℕ) → x ≢ f → small_at x (block f 0) ≡ 0
other_frame f x ne = ⊎_elim (λ l. before_block x (block f 0) l) (λ l. behind_block x (block f 0) (omega arith)) (cases_lt x f)

-- What remains of a block.

zero_gone : (b : FrameBlock) (f : ℕ) → covers b f ≡ 1 → remains b 0 f ≡ []
unfolding remains
zero_gone b f e = grind (arith, nat_tests)

zero_stays : (b : FrameBlock) (f : ℕ) → covers b f ≡ 0 → remains b 0 f ≡ block f 0 ∷ []
unfolding remains
zero_stays b f e = grind (arith, nat_tests)

suc_stays : (b : FrameBlock) (o f : ℕ) → is_apart b (block f (suc o)) ≡ true → remains b (suc o) f ≡ block f (suc o) ∷ []
unfolding remains
suc_stays b o f e = rw e refl

suc_gone : (b : FrameBlock) (o f : ℕ) → is_apart b (block f (suc o)) ≡ false → is_inside b (block f (suc o)) ≡ true
    → remains b (suc o) f ≡ []
unfolding remains
suc_gone b o f e i = rw (e, i) refl

suc_halves : (b : FrameBlock) (o f : ℕ) → is_apart b (block f (suc o)) ≡ false → is_inside b (block f (suc o)) ≡ false
    → remains b (suc o) f ≡ remains b o f ++ remains b o (f + 2 ^ o)
unfolding remains
suc_halves b o f e i = rw (e, i) refl

one_or_none : (b : FrameBlock) (x : ℕ) → (covers b x ≡ 1) ⊎ (covers b x ≡ 0)
one_or_none b x = ⊎_elim (λ l. inr (omega arith)) (λ l. inl (omega (arith, covers-le b x))) (cases_lt (covers b x) 1)

-- the ways in which a block meets another
data Meets (b : FrameBlock) (o f : ℕ) : Type 0 where
  stays : is_apart b (block f (suc o)) ≡ true → Meets b o f
  goes : is_apart b (block f (suc o)) ≡ false → is_inside b (block f (suc o)) ≡ true → Meets b o f
  halved : is_apart b (block f (suc o)) ≡ false → is_inside b (block f (suc o)) ≡ false → Meets b o f

meets : (b : FrameBlock) (o f : ℕ) → Meets b o f
meets b o f = ⊎_elim stays (λ e. ⊎_elim (goes e) (halved e) (true_or_false (is_inside b (block f (suc o)))))
    (true_or_false (is_apart b (block f (suc o))))

-- no frame of the block remains
remains_in : (b : FrameBlock) (x : ℕ) → covers b x ≡ 1 → (o f : ℕ) → smalls x (remains b o f) ≡ 0
remains_in b x h zero f = by (one_or_none b f)
  where
    by : (covers b f ≡ 1) ⊎ (covers b f ≡ 0) → smalls x (remains b zero f) ≡ 0
    by (inl e) = omega (arith, ap (smalls x) (zero_gone b f e), smalls_none x)
    by (inr e) = omega (
      arith,
      ap (smalls x) (zero_stays b f e),
      smalls_cons x (block f 0) [],
      smalls_none x,
      other_frame f x (λ s. omega (arith, ap (covers b) s)),
    )
remains_in b x h (suc o) f = by (remains_in b x h o f) (remains_in b x h o (f + 2 ^ o)) (meets b o f)
  where
    by : smalls x (remains b o f) ≡ 0 → smalls x (remains b o (f + 2 ^ o)) ≡ 0 → Meets b o f → smalls x (remains b (suc o) f) ≡ 0
    by first second (stays e) =
        omega (
          arith,
          ap (smalls x) (suc_stays b o f e),
          smalls_cons x (block f (suc o)) [],
          smalls_none x,
          apart_small b (block f (suc o)) x e h,
        )
    by first second (goes e i) = omega (arith, ap (smalls x) (suc_gone b o f e i), smalls_none x)
    by first second (halved e i) =
        omega (
          arith,
          ap (smalls x) (suc_halves b o f e i),
          smalls_both x (remains b o f) (remains b o (f + 2 ^ o)),
          first,
          second,
        )

-- all other frames do
remains_out : (b : FrameBlock) (x : ℕ) → covers b x ≡ 0 → (o f : ℕ) → o < 9 → smalls x (remains b o f) ≡ small_at x (block f o)
remains_out b x h zero f low = by (one_or_none b f)
  where
    by : (covers b f ≡ 1) ⊎ (covers b f ≡ 0) → smalls x (remains b zero f) ≡ small_at x (block f 0)
    by (inl e) = omega (arith, ap (smalls x) (zero_gone b f e), smalls_none x, other_frame f x (λ s. omega (arith, ap (covers b) s)))
    by (inr e) = omega (arith, ap (smalls x) (zero_stays b f e), smalls_cons x (block f 0) [], smalls_none x)
remains_out b x h (suc o) f low = by (remains_out b x h o f (omega arith)) (remains_out b x h o (f + 2 ^ o) (omega arith)) (meets b o f)
  where
    by : smalls x (remains b o f) ≡ small_at x (block f o)
        → smalls x (remains b o (f + 2 ^ o)) ≡ small_at x (block (f + 2 ^ o) o) → Meets b o f
        → smalls x (remains b (suc o) f) ≡ small_at x (block f (suc o))
    by first second (stays e) = omega (arith, ap (smalls x) (suc_stays b o f e), smalls_cons x (block f (suc o)) [], smalls_none x)
    by first second (goes e i) = omega (arith, ap (smalls x) (suc_gone b o f e i), smalls_none x, inside_small b (block f (suc o)) x i h)
    by first second (halved e i) =
        omega (
          arith,
          ap (smalls x) (suc_halves b o f e i),
          smalls_both x (remains b o f) (remains b o (f + 2 ^ o)),
          first,
          second,
          halves x f o (omega arith),
        )

-- what remains is no whole child
remains_whole : (b : FrameBlock) (c o f : ℕ) → o < 9 → wholes c (remains b o f) ≡ 0
remains_whole b c zero f low = by (one_or_none b f)
  where
    by : (covers b f ≡ 1) ⊎ (covers b f ≡ 0) → wholes c (remains b zero f) ≡ 0
    by (inl e) = omega (arith, ap (wholes c) (zero_gone b f e), wholes_none c)
    by (inr e) = omega (arith, ap (wholes c) (zero_stays b f e), wholes_cons c (block f 0) [], wholes_none c, not_whole c (block f 0) low)
remains_whole b c (suc o) f low = by (remains_whole b c o f (omega arith)) (remains_whole b c o (f + 2 ^ o) (omega arith)) (meets b o f)
  where
    by : wholes c (remains b o f) ≡ 0 → wholes c (remains b o (f + 2 ^ o)) ≡ 0 → Meets b o f → wholes c (remains b (suc o) f) ≡ 0
    by first second (stays e) =
        omega (
          arith,
          ap (wholes c) (suc_stays b o f e),
          wholes_cons c (block f (suc o)) [],
          wholes_none c,
          not_whole c (block f (suc o)) low,
        )
    by first second (goes e i) = omega (arith, ap (wholes c) (suc_gone b o f e i), wholes_none c)
    by first second (halved e i) =
        omega (
          arith,
          ap (wholes c) (suc_halves b o f e i),
          wholes_both c (remains b o f) (remains b o (f + 2 ^ o)),
          first,
          second,
        )

-- a multiple of a power of 2 is one of the power before, and so is the number half way on
half_aligned : (o f : ℕ) → o < 8 → f % 2 ^ suc o ≡ 0 → (f % 2 ^ o ≡ 0) × ((f + 2 ^ o) % 2 ^ o ≡ 0)
half_aligned zero f h e = (omega arith, omega arith)
half_aligned (suc zero) f h e = (omega arith, omega arith)
half_aligned (suc (suc zero)) f h e = (omega arith, omega arith)
half_aligned (suc (suc (suc zero))) f h e = (omega arith, omega arith)
half_aligned (suc (suc (suc (suc zero)))) f h e = (omega arith, omega arith)
half_aligned (suc (suc (suc (suc (suc zero))))) f h e = (omega arith, omega arith)
half_aligned (suc (suc (suc (suc (suc (suc zero)))))) f h e = (omega arith, omega arith)
half_aligned (suc (suc (suc (suc (suc (suc (suc zero))))))) f h e = (omega arith, omega arith)
half_aligned (suc (suc (suc (suc (suc (suc (suc (suc o)))))))) f h e = absurd (omega arith)

-- the halves of a block are blocks
lower_half : (key : Key) (o f : ℕ) → o < 8 → IsBlock key (block f (suc o)) → IsBlock key (block f o)
lower_half key o f h is =
    record { order = omega arith; aligned = (half_aligned o f h is.aligned).0; inside = omega (arith, is.inside, pow-suc 2 o) }

upper_half : (key : Key) (o f : ℕ) → o < 8 → IsBlock key (block f (suc o)) → IsBlock key (block (f + 2 ^ o) o)
upper_half key o f h is =
    record { order = omega arith; aligned = (half_aligned o f h is.aligned).1; inside = omega (arith, is.inside, pow-suc 2 o) }

remains_blocks : (key : Key) (b : FrameBlock) (o f : ℕ) → o < 9 → IsBlock key (block f o) → All (IsBlock key) (remains b o f)
remains_blocks key b zero f low is = by (one_or_none b f)
  where
    by : (covers b f ≡ 1) ⊎ (covers b f ≡ 0) → All (IsBlock key) (remains b zero f)
    by (inl e) = subst (All (IsBlock key)) (sym (zero_gone b f e)) (All-nil (IsBlock key))
    by (inr e) = subst (All (IsBlock key)) (sym (zero_stays b f e)) (All-cons (IsBlock key) (block f 0) [] is (All-nil (IsBlock key)))
remains_blocks key b (suc o) f low is =
    by (remains_blocks key b o f (omega arith) (lower_half key o f (omega arith) is))
    (remains_blocks key b o (f + 2 ^ o) (omega arith) (upper_half key o f (omega arith) is)) (meets b o f)
  where
    by : All (IsBlock key) (remains b o f) → All (IsBlock key) (remains b o (f + 2 ^ o)) → Meets b o f
        → All (IsBlock key) (remains b (suc o) f)
    by first second (stays e) =
        subst (All (IsBlock key)) (sym (suc_stays b o f e))
        (All-cons (IsBlock key) (block f (suc o)) [] is (All-nil (IsBlock key)))
    by first second (goes e i) = subst (All (IsBlock key)) (sym (suc_gone b o f e i)) (All-nil (IsBlock key))
    by first second (halved e i) =
        subst (All (IsBlock key)) (sym (suc_halves b o f e i))
        (All-append (IsBlock key) (remains b o f) (remains b o (f + 2 ^ o)) first second)

-- The same of whole lists.

small_remainder : (b d : FrameBlock) → d.order < 9 → remainder b d ≡ remains b d.order d.frame
unfolding remainder
small_remainder b d h = grind (arith, nat_tests)

huge_remainder : (b d : FrameBlock) → 9 ≤ d.order → remainder b d ≡ d ∷ []
unfolding remainder
huge_remainder b d h = grind (arith, nat_tests)

remainder_in : (b d : FrameBlock) (x : ℕ) → covers b x ≡ 1 → smalls x (remainder b d) ≡ 0
remainder_in b d x h =
    ⊎_elim
    (λ low. omega (arith, ap (smalls x) (small_remainder b d low), remains_in b x h d.order d.frame))
    (λ top. omega (arith, ap (smalls x) (huge_remainder b d top), smalls_cons x d [], smalls_none x, small_huge x d top))
    (cases_lt d.order 9)

remainder_out : (b d : FrameBlock) (x : ℕ) → covers b x ≡ 0 → smalls x (remainder b d) ≡ small_at x d
remainder_out b d x h =
    ⊎_elim
    (λ low. omega (arith, ap (smalls x) (small_remainder b d low), remains_out b x h d.order d.frame low))
    (λ top. omega (arith, ap (smalls x) (huge_remainder b d top), smalls_cons x d [], smalls_none x))
    (cases_lt d.order 9)

remainder_whole : (b d : FrameBlock) (c : ℕ) → wholes c (remainder b d) ≡ whole_at c d
remainder_whole b d c =
    ⊎_elim
    (λ low. omega (arith, ap (wholes c) (small_remainder b d low), remains_whole b c d.order d.frame low, not_whole c d low))
    (λ top. omega (arith, ap (wholes c) (huge_remainder b d top), wholes_cons c d [], wholes_none c))
    (cases_lt d.order 9)

remainder_blocks : (key : Key) (b d : FrameBlock) → IsBlock key d → All (IsBlock key) (remainder b d)
remainder_blocks key b d is =
    ⊎_elim
    (λ low. subst (All (IsBlock key)) (sym (small_remainder b d low)) (remains_blocks key b d.order d.frame low is))
    (λ top. subst (All (IsBlock key)) (sym (huge_remainder b d top)) (All-cons (IsBlock key) d [] is (All-nil (IsBlock key))))
    (cases_lt d.order 9)

all_in : (b : FrameBlock) (x : ℕ) → covers b x ≡ 1 → (blocks : List FrameBlock) → smalls x (flat_map (remainder b) blocks) ≡ 0
all_in b x h [] = smalls_none x
all_in b x h (d ∷ blocks) =
    omega (arith, smalls_both x (remainder b d) (flat_map (remainder b) blocks), remainder_in b d x h, all_in b x h blocks)

all_out : (b : FrameBlock) (x : ℕ) → covers b x ≡ 0 → (blocks : List FrameBlock)
    → smalls x (flat_map (remainder b) blocks) ≡ smalls x blocks
all_out b x h [] = refl
all_out b x h (d ∷ blocks) =
    omega (
      arith,
      smalls_both x (remainder b d) (flat_map (remainder b) blocks),
      remainder_out b d x h,
      all_out b x h blocks,
      smalls_cons x d blocks,
    )

all_whole : (b : FrameBlock) (c : ℕ) (blocks : List FrameBlock) → wholes c (flat_map (remainder b) blocks) ≡ wholes c blocks
all_whole b c [] = refl
all_whole b c (d ∷ blocks) =
    omega (
      arith,
      wholes_both c (remainder b d) (flat_map (remainder b) blocks),
      remainder_whole b d c,
      all_whole b c blocks,
      wholes_cons c d blocks,
    )

all_blocks : (key : Key) (b : FrameBlock) (blocks : List FrameBlock) → All (IsBlock key) blocks
    → All (IsBlock key) (flat_map (remainder b) blocks)
all_blocks key b [] are = are
all_blocks key b (d ∷ blocks) are =
    All-append (IsBlock key) (remainder b d) (flat_map (remainder b) blocks)
    (remainder_blocks key b d (All-head (IsBlock key) d blocks are))
    (all_blocks key b blocks (All-tail (IsBlock key) d blocks are))

-- a whole child stands in a list as often as the list has it
whole_same : (b d : FrameBlock) → b.order ≡ 9 → b.frame % 512 ≡ 0 → is_same b d ≡ true → whole_at (child_of b.frame) d ≡ 1
unfolding is_same whole_at
whole_same b d o a e = let f : b.frame ≡ 512 * (b.frame / 512) = omega arith in grind (arith, nat_tests)

whole_other : (b d : FrameBlock) → b.order ≡ 9 → b.frame % 512 ≡ 0 → is_same b d ≡ false → whole_at (child_of b.frame) d ≡ 0
unfolding is_same whole_at
whole_other b d o a e = let f : b.frame ≡ 512 * (b.frame / 512) = omega arith in grind (arith, nat_tests)

times_whole : (b : FrameBlock) (blocks : List FrameBlock) → b.order ≡ 9 → b.frame % 512 ≡ 0
    → times b blocks ≡ wholes (child_of b.frame) blocks
times_whole b [] o a = omega (arith, times_none b, wholes_none (child_of b.frame))
times_whole b (d ∷ blocks) o a =
    ⊎_elim
    (λ e. omega (arith, times_here b d blocks e, whole_same b d o a e, wholes_cons (child_of b.frame) d blocks, times_whole b blocks o a))
    (λ e. omega (arith, times_else b d blocks e, whole_other b d o a e, wholes_cons (child_of b.frame) d blocks, times_whole b blocks o a))
    (true_or_false (is_same b d))

-- a block of order 9 is the child that it begins in
pub first_of_child : (b : FrameBlock) → b.frame % 2 ^ b.order ≡ 0 → b.order ≡ 9 → b.frame % 512 ≡ 0
first_of_child b a h = subst (λ o. b.frame % 2 ^ o ≡ 0) h a

pub whole_child : (b : FrameBlock) → b.order ≡ 9 → b.frame % 512 ≡ 0 → whole_at (child_of b.frame) b ≡ 1
unfolding whole_at
whole_child b o a = let f : b.frame ≡ 512 * (b.frame / 512) = omega arith in grind (arith, nat_tests)

without_small : (b : FrameBlock) (blocks : List FrameBlock) → b.order < 9 → without b blocks ≡ flat_map (remainder b) blocks
unfolding without
without_small b blocks h = grind (arith, nat_tests)

without_huge : (b : FrameBlock) (blocks : List FrameBlock) → b.order ≡ 9 → without b blocks ≡ less_one b blocks
unfolding without
without_huge b blocks h = grind (arith, nat_tests)

-- a block leaves a list that has its frames
pub without_leaves : (key : Key) (b : FrameBlock) (blocks : List FrameBlock) → IsBlock key b
    → All (IsBlock key) blocks → HasFrames blocks b → Leaves key blocks b (without b blocks)
without_leaves key b blocks is are has = ⊎_elim low (λ h. top (omega (arith, is.order))) (cases_lt b.order 9)
  where
    low : b.order < 9 → Leaves key blocks b (without b blocks)
    low h = subst (Leaves key blocks b) (sym (without_small b blocks h)) (record {
      smalls = λ x.
          ⊎_elim
          (λ e. omega (arith, all_in b x e blocks, small_covers x b h, has.smalls h x e))
          (λ e. omega (arith, all_out b x e blocks, small_covers x b h))
          (one_or_none b x);
      wholes = λ c. omega (arith, all_whole b c blocks, not_whole c b h);
      are_blocks = all_blocks key b blocks are;
    })

    top : b.order ≡ 9 → Leaves key blocks b (without b blocks)
    top h =
        let a : b.frame % 512 ≡ 0 = first_of_child b is.aligned h in
        subst (Leaves key blocks b) (sym (without_huge b blocks h))
        (less_one_leaves key b blocks are (omega (arith, times_whole b blocks h a, has.wholes h)))

-- What is left when all frames left.

-- a block of the key holds its first frame, or is the child that this lies in
holds_its_first : (key : Key) (b : FrameBlock) → IsBlock key b → 0 < small_at b.frame b + whole_at (child_of b.frame) b
holds_its_first key b is =
    ⊎_elim (λ low. omega (arith, in_block b.frame b low (omega arith) (omega (arith, pow_pos b.order))))
    (λ top. omega (
      arith,
      whole_child b (omega (arith, is.order)) (first_of_child b is.aligned (omega (arith, is.order))),
    )) (cases_lt b.order 9)

-- blocks that hold no frame are none
pub nothing_left : (key : Key) (blocks : List FrameBlock) → All (IsBlock key) blocks → ((x : ℕ) → smalls x blocks ≡ 0)
    → ((c : ℕ) → wholes c blocks ≡ 0) → blocks ≡ []
nothing_left key [] are small whole = refl
nothing_left key (d ∷ blocks) are small whole =
    absurd (omega (
      arith,
      holds_its_first key d (All-head (IsBlock key) d blocks are),
      smalls_cons d.frame d blocks,
      small d.frame,
      wholes_cons (child_of d.frame) d blocks,
      whole (child_of d.frame),
    ))

-- where a block leaves a list that had its frames alone, nothing is left
pub leaves_nothing : (key : Key) (blocks : List FrameBlock) (b : FrameBlock) (rest : List FrameBlock)
    → Leaves key blocks b rest → ((x : ℕ) → smalls x blocks ≡ small_at x b)
    → ((c : ℕ) → wholes c blocks ≡ whole_at c b) → rest ≡ []
leaves_nothing key blocks b rest l small whole =
    nothing_left key rest l.are_blocks (λ x. omega (arith, l.smalls x, small x)) (λ c. omega (arith, l.wholes c, whole c))

-- a list of one block has its frames
one_has_frames : (key : Key) (b : FrameBlock) → IsBlock key b → HasFrames (b ∷ []) b
one_has_frames key b is = record {
  smalls = λ low x h. omega (arith, smalls_cons x b [], smalls_none x, small_covers x b low);
  wholes = λ top. omega (
    arith,
    wholes_cons (child_of b.frame) b [],
    wholes_none (child_of b.frame),
    whole_child b top (first_of_child b is.aligned top),
  );
}

-- a block alone, without itself, is nothing
pub without_itself : (key : Key) (b : FrameBlock) → IsBlock key b → without b (b ∷ []) ≡ []
without_itself key b is =
    leaves_nothing key (b ∷ []) b (without b (b ∷ []))
    (without_leaves key b (b ∷ []) is (All-cons (IsBlock key) b [] is (All-nil (IsBlock key)))
    (one_has_frames key b is)) (λ x. omega (arith, smalls_cons x b [], smalls_none x))
    (λ c. omega (arith, wholes_cons c b [], wholes_none c))

-- Worked values.

-- a block of order 3 without its third pair: its lower half, and its last pair
half_and_pair : without (block 4 1) (block 0 3 ∷ []) ≡ block 0 2 ∷ block 6 1 ∷ []
unfolding without remainder remains is_apart is_inside covers
half_and_pair = refl

-- a block made of two, beside a third and a whole child
made_of_two : without (block 16 4) (block 16 3 ∷ block 512 9 ∷ block 24 3 ∷ block 32 0 ∷ []) ≡ block 512 9 ∷ block 32 0 ∷ []
unfolding without remainder remains is_apart is_inside covers
made_of_two = refl

-- a whole child leaves by itself
whole_leaves : without (block 512 9) (block 0 3 ∷ block 512 9 ∷ []) ≡ block 0 3 ∷ []
unfolding without less_one is_same
whole_leaves = refl
