-- Where nobody else steps and nothing rests: no tree is reserved, and each tree word counts all that is not held.
use Rattle.std.proofs.Common.{◌≡◌, ⊎_elim, ℕ, zero, suc, ◌+◌, ◌*◌, ◌^◌, ◌<◌, ◌≤◌, List, [], ◌∷◌, Option, None, Some, refl, ap, ◌∙◌, arith}
use Rattle.std.specs.Prelude.{Bool, true, false, if◌then◌else◌}
use Rattle.std.specs.List.{sum_by, range_with_len, All}
use Rattle.std.proofs.Math.Logic.{∥∥₁_elim}
use Rattle.std.proofs.Math.Nat.{ℕ_set}
use Rattle.std.proofs.lemmas.Bool.{cases_lt, cases_eq}
use Rattle.std.proofs.lemmas.Bool.Decides.{nat_tests}
use Rattle.std.proofs.lemmas.Nat.{pow_pos}
use Rattle.std.proofs.lemmas.List.Sums.{sum_by-cons}
use Rattle.std.proofs.lemmas.List.Elements.{All-head, All-tail}
use Rattle.frame_model.specs.declared.block.FrameBlock.{FrameBlock}
use Rattle.frame_model.specs.declared.key.Key.{Key}
use Rattle.frame_model.specs.declared.view.View.{View}
use Rattle.frame_model.specs.Key.{tree_count, tree_of, child_of, children_in, size_of}
use Rattle.frame_model.specs.Words.{held_of, held_in_tree, tree_free_of, reserved_of, rest_of, resting_on, cores_on, count_on, is_on}
use Rattle.frame_model.specs.View.{count_in, paid_on, reserves, is_at, fixed_ground, ground_with, boot_blocks, spent, IsViewOf, IsIdle}
use Rattle.frame_model.specs.Fit.{total}
use Rattle.frame_core.specs.Moves.{IsAtRest}
use Rattle.frame_model.proofs.Amounts.{count_none, count_on_none, is_on_none}
use Rattle.low_frames.specs.Alone.{IsFreeIn}
use Rattle.low_frames.proofs.RoomLemmas.{FitsAlone, entries_alone, range_alone, free_block_counts}
use Rattle.core_frames.specs.Search.{IsBlockOf}
use Rattle.core_frames.specs.Alone.{NothingRests, WereTried, HasNoneOf}
use Rattle.core_frames.specs.Places.{NothingRestsOn}
use Rattle.core_frames.proofs.Carried.{in_a_tree}

-- Sums.

range_zero : (f : ℕ → ℕ) (a n : ℕ) → ((d : ℕ) → a ≤ d → d < a + n → f d ≡ 0) → sum_by f (range_with_len a n) ≡ 0
range_zero f a zero none = refl
range_zero f a (suc n) none =
    omega (
      arith,
      sum_by-cons f a (range_with_len (a + 1) n),
      none a (omega arith) (omega arith),
      range_zero f (a + 1) n (λ d l h. none d (omega arith) (omega arith)),
    )

-- terms that are at most 512, of which one leaves room for m
range_few : (f : ℕ → ℕ) (a n : ℕ) → ((d : ℕ) → a ≤ d → d < a + n → f d ≤ 512) → sum_by f (range_with_len a n) ≤ 512 * n
range_few f a zero few = omega (arith, range_zero f a 0 (λ d l h. absurd (omega arith)))
range_few f a (suc n) few =
    omega (
      arith,
      sum_by-cons f a (range_with_len (a + 1) n),
      few a (omega arith) (omega arith),
      range_few f (a + 1) n (λ d l h. few d (omega arith) (omega arith)),
    )

pub range_room : (f : ℕ → ℕ) (a n c m : ℕ) → ((d : ℕ) → a ≤ d → d < a + n → f d ≤ 512) → a ≤ c → c < a + n → f c + m ≤ 512
    → sum_by f (range_with_len a n) + m ≤ 512 * n
range_room f a zero c m few l h room = absurd (omega arith)
range_room f a (suc n) c m few l h room =
    let tail : (d : ℕ) → a + 1 ≤ d → d < a + 1 + n → f d ≤ 512 = (λ d p q. few d (omega arith) (omega arith)) in
    ⊎_elim
    (λ (e : c ≡ a). omega (arith, sum_by-cons f a (range_with_len (a + 1) n), ap f e, range_few f (a + 1) n tail))
    (λ ne. omega (
      arith,
      sum_by-cons f a (range_with_len (a + 1) n),
      few a (omega arith) (omega arith),
      range_room f (a + 1) n c m tail (omega arith) (omega arith) room,
    ))
    (cases_eq c a)

-- Views at rest pay and reserve nothing.

pub is_at_none : (t : ℕ) → is_at t None ≡ 0
unfolding is_at
is_at_none t = refl

pub paid_at_rest : (t : ℕ) (key : Key) (v : View) → IsViewOf key v → IsAtRest v → paid_on t v ≡ 0
paid_at_rest t key v is rest =
    ⊎_elim
    (λ (none : v.share < 1). ap (count_in t) (is.no_part (omega arith)).paid ∙ count_none t)
    (λ (some : 1 ≤ v.share). ap (count_in t) (rest (omega arith)).paid ∙ count_none t)
    (cases_lt v.share 1)

pub reserving_at_rest : (t : ℕ) (key : Key) (v : View) → IsViewOf key v → IsAtRest v → reserves t v ≡ 0
reserving_at_rest t key v is rest =
    ⊎_elim
    (λ (none : v.share < 1). ap (is_at t) (is.no_part (omega arith)).reserving ∙ is_at_none t)
    (λ (some : 1 ≤ v.share). ap (is_at t) (rest (omega arith)).reserving ∙ is_at_none t)
    (cases_lt v.share 1)

pub all_at_rest : (f : View → ℕ) (key : Key) (vs : List View) → ((v : View) → IsViewOf key v → IsAtRest v → f v ≡ 0) → All (IsViewOf key) vs
    → All IsAtRest vs → sum_by f vs ≡ 0
all_at_rest f key [] none are rest = refl
all_at_rest f key (v ∷ vs) none are rest =
    omega (
      arith,
      sum_by-cons f v vs,
      none v (All-head (IsViewOf key) v vs are) (All-head IsAtRest v vs rest),
      all_at_rest f key vs none (All-tail (IsViewOf key) v vs are) (All-tail IsAtRest v vs rest),
    )

ground_by : (b : Bool) (f : View → ℕ) (u w : View) → f u ≡ 0 → f w ≡ 0 → f (if b then u else w) ≡ 0
ground_by true f u w e h = e
ground_by false f u w e h = h

pub ground_none : (key : Key) (f : View → ℕ) → f (ground_with key (boot_blocks key)) ≡ 0 → f spent ≡ 0 → f (fixed_ground key) ≡ 0
unfolding fixed_ground
ground_none key f e h = ground_by key.sealed f (ground_with key (boot_blocks key)) spent e h

total_none : (key : Key) (f : View → ℕ) (v : View) (others : List View) → f (ground_with key (boot_blocks key)) ≡ 0 → f spent ≡ 0 → f v ≡ 0
    → ((u : View) → IsViewOf key u → IsAtRest u → f u ≡ 0) → All (IsViewOf key) (v ∷ others) → All IsAtRest others
    → total key f (v ∷ others) ≡ 0
unfolding total
total_none key f v others e h own none are rest =
    omega (
      arith,
      sum_by-cons f (fixed_ground key) (v ∷ others),
      sum_by-cons f v others,
      ground_none key f e h,
      own,
      all_at_rest f key others none (All-tail (IsViewOf key) v others are) rest,
    )

-- Where nothing rests.

pub resting_none : (key : Key) (ws : List ℕ) (t : ℕ) → NothingRests key ws → resting_on key ws t ≡ 0
unfolding resting_on
resting_none key ws t none =
    range_zero (λ k. count_on t (rest_of key ws k)) 0 key.cores (λ k l h. ap (count_on t) (none k (omega arith)) ∙ count_on_none t)

pub cores_none : (key : Key) (ws : List ℕ) (t : ℕ) → NothingRests key ws → cores_on key ws t ≡ 0
unfolding cores_on
cores_none key ws t none =
    range_zero (λ k. is_on t (rest_of key ws k)) 0 key.cores (λ k l h. ap (is_on t) (none k (omega arith)) ∙ is_on_none t)

-- and where nothing rests on one tree

count_off : (t : ℕ) (r : Option (ℕ × ℕ)) → is_on t r ≡ 0 → count_on t r ≡ 0
unfolding is_on count_on
count_off t None e = refl
count_off t (Some r) e = grind (arith, nat_tests)

resting_off : (key : Key) (ws : List ℕ) (t : ℕ) → NothingRestsOn key t ws → resting_on key ws t ≡ 0
unfolding resting_on
resting_off key ws t none =
    range_zero (λ k. count_on t (rest_of key ws k)) 0 key.cores (λ k l h. count_off t (rest_of key ws k) (none k (omega arith)))

module _ (A : Type 0) (key : Key) (ws : List ℕ) (v : View) (fits : FitsAlone A key ws v) (alone : A) (idle : IsIdle v) where
  -- a tree word counts all that is not held
  tree_exact : (t : ℕ) → t < tree_count key → resting_on key ws t ≡ 0 → tree_free_of key ws t + held_in_tree key ws t ≡ size_of key t
  tree_exact t h off =
      ∥∥₁_elim fits (ℕ_set _ _)
      (λ f. omega (
        arith,
        f.1.1.0.trees_add_up t h,
        off,
        total_none key (paid_on t) v f.1.0 (count_none t) (count_none t)
            (ap (count_in t) idle.paid ∙ count_none t) (λ u is rest. paid_at_rest t key u is rest)
            f.1.1.0.each (f.1.1.1 alone),
      ))

  held_few : (c : ℕ) → c < key.children → held_of key ws c ≤ 512
  held_few c h = omega (arith, entries_alone A key ws v fits alone c h)

  -- a free block is in the count of its tree
  tree_has_room : (order : ℕ) (b : FrameBlock) → IsBlockOf key order b → IsFreeIn key ws b
      → held_in_tree key ws (tree_of b.frame) + 2 ^ order ≤ size_of key (tree_of b.frame)
  unfolding held_in_tree
  tree_has_room order b is free =
      let c : ℕ = child_of b.frame in
      let inside : c < key.children = omega (arith, in_a_tree key b is.is_block, is.is_block.inside, pow_pos b.order) in
      let room = free_block_counts A key ws v fits alone c inside idle.charged order b
      (record { is_block = is.is_block; has_order = is.has_order; in_child = refl }) free in
      range_room (held_of key ws) (8 * tree_of b.frame) (children_in key (tree_of b.frame)) c (2 ^ order)
      (λ d l h. held_few d (omega arith)) (omega arith) (omega (arith, inside))
      (omega (arith, room.0, entries_alone A key ws v fits alone c inside))

  -- where nothing rests on its tree, whose word counts too few, the block is not free
  pub short_of : (order : ℕ) (b : FrameBlock) → IsBlockOf key order b → NothingRestsOn key (tree_of b.frame) ws
      → tree_free_of key ws (tree_of b.frame) < 2 ^ order → ¬ IsFreeIn key ws b
  short_of order b is none few free =
      let t : ℕ = tree_of b.frame in
      omega (
        arith,
        few,
        tree_exact t (in_a_tree key b is.is_block) (resting_off key ws t none),
        tree_has_room order b is free,
      )

module _ (A : Type 0) (key : Key) (ws : List ℕ) (v : View) (fits : FitsAlone A key ws v) (alone : A) (idle : IsIdle v)
    (none : NothingRests key ws) where
  -- each tree word counts all that is not held
  pub trees_exact : (t : ℕ) → t < tree_count key → tree_free_of key ws t + held_in_tree key ws t ≡ size_of key t
  trees_exact t h = tree_exact A key ws v fits alone idle t h (resting_none key ws t none)

  -- no tree is reserved
  pub none_reserved : (t : ℕ) → t < tree_count key → reserved_of key ws t ≡ 0
  none_reserved t h =
      ∥∥₁_elim fits (ℕ_set _ _)
      (λ f. omega (
        arith,
        f.1.1.0.reserved_once t h,
        cores_none key ws t none,
        total_none key (reserves t) v f.1.0 (is_at_none t) (is_at_none t) (ap (is_at t) idle.reserving ∙ is_at_none t)
            (λ u is rest. reserving_at_rest t key u is rest) f.1.1.0.each (f.1.1.1 alone),
      ))

  -- once each tree was tried, no block of the order is free
  pub exhausted : (order : ℕ) → WereTried key order 0 (tree_count key) ws → HasNoneOf key order ws
  exhausted order tried b is free =
      let t : ℕ = tree_of b.frame in
      let inside : t < tree_count key = in_a_tree key b is.is_block in
      ⊎_elim
      (λ passed.
      ⊎_elim
      (λ (flag : 0 < reserved_of key ws t). omega (arith, flag, none_reserved t inside))
      (λ counts.
      ⊎_elim
      (λ (few : tree_free_of key ws t < 2 ^ order). omega (
        arith,
        few,
        trees_exact t inside,
        tree_has_room A key ws v fits alone idle order b is free,
      ))
      (λ (many : 4096 < tree_free_of key ws t). omega (arith, many, (range_alone A key ws v fits).tree_free t inside))
      counts)
      passed)
      (λ nothing. nothing b (record { is_block = is.is_block; has_order = is.has_order; in_tree = refl }) free)
      (tried t (omega arith) inside)
