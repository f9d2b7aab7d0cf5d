-- Words and views that fit are safe: held blocks never overlap, and counters promise no more than is free.
use Rattle.std.proofs.Common.{◌≡◌, ⊎_elim, ℕ, ◌+◌, ◌%◌, ◌^◌, ◌<◌, ◌≤◌, List, [], ◌∷◌, ◌++◌, Some, Bool, true, false, refl, ap, sym, subst}
use Rattle.std.proofs.Common.{arith}
use Rattle.std.specs.Prelude.{if◌then◌else◌}
use Rattle.std.specs.List.{sum_by, All}
use Rattle.std.proofs.lemmas.Bool.{cases_lt}
use Rattle.std.proofs.lemmas.Bool.Decides.{nat_tests}
use Rattle.std.proofs.lemmas.List.Sums.{sum_by-cons}
use Rattle.std.proofs.lemmas.List.Elements.{All-head, All-tail, All-cons, All-append}
use Rattle.frame_model.specs.declared.block.FrameBlock.{FrameBlock}
use Rattle.frame_model.specs.declared.key.Key.{Key}
use Rattle.frame_model.specs.declared.view.View.{View}
use Rattle.frame_model.specs.Key.{frame_count, child_of, is_boot_frame}
use Rattle.frame_model.specs.Block.{IsBlock, covers, small_at, whole_at, smalls, wholes}
use Rattle.frame_model.specs.View.{small_in, whole_in, ground_small_in, spent, ground_with, boot_blocks, fixed_ground, IsViewOf}
use Rattle.frame_model.specs.Fit.{all_views, total, Fit}
use Rattle.frame_model.specs.Holding.{holders}
use Rattle.frame_model.specs.Laws.{blocks_with, holding_of, seats_of, IsSafe, EveryFitIsSafe}
use Rattle.frame_model.proofs.Blocks.{smalls_none, wholes_none, smalls_cons, wholes_cons, smalls_both, wholes_both, not_small, not_whole}
use Rattle.frame_model.proofs.Chosen.{frames_are_blocks}
use Rattle.frame_model.proofs.Words.{held_is}
use Rattle.frame_model.proofs.Keeps.{total_is}
use Rattle.frame_model.proofs.Steps.Shared.{ground_none, ground-le, past_held, past_unflagged}
use Rattle.frame_model.proofs.Steps.Seats.{spent_is, ground_is}

below_nine : (x : ℕ) (b : FrameBlock) → b.order < 9 → small_at x b ≡ covers b x
unfolding small_at
below_nine x b h = grind (arith, nat_tests)

whole_covers : (x : ℕ) (b : FrameBlock) → b.order ≡ 9 → b.frame % 512 ≡ 0
    → whole_at (child_of x) b ≡ covers b x
unfolding whole_at covers
whole_covers x b e a = grind (arith, nat_tests)

-- a block holds a frame as a block below order 9, or as the child of the frame
pub covers_is : (key : Key) (x : ℕ) (b : FrameBlock) → IsBlock key b
    → covers b x ≡ small_at x b + whole_at (child_of x) b
covers_is key x b i =
    ⊎_elim
    (λ low. omega (arith, below_nine x b low, not_whole (child_of x) b low))
    (λ high.
    let nine : b.order ≡ 9 = omega (arith, i.order) in
    let aligned : b.frame % 512 ≡ 0 = omega (arith, i.aligned, ap (λ o. b.frame % 2 ^ o) nine) in
    omega (arith, not_small x b nine, whole_covers x b nine aligned))
    (cases_lt b.order 9)

pub holders_are : (key : Key) (x : ℕ) (bs : List FrameBlock) → All (IsBlock key) bs
    → holders x bs ≡ smalls x bs + wholes (child_of x) bs
unfolding holders
holders_are key x [] all = omega (arith, smalls_none x, wholes_none (child_of x))
holders_are key x (b ∷ bs) all =
    omega (
      arith,
      sum_by-cons (λ c. covers c x) b bs,
      smalls_cons x b bs,
      wholes_cons (child_of x) b bs,
      covers_is key x b (All-head (IsBlock key) b bs all),
      holders_are key x bs (All-tail (IsBlock key) b bs all),
    )

pub blocks_smalls : (x : ℕ) (vs : List View) → smalls x (blocks_with vs) ≡ sum_by (small_in x) vs
unfolding blocks_with
blocks_smalls x [] = smalls_none x
blocks_smalls x (v ∷ vs) = omega (
  arith,
  sum_by-cons (small_in x) v vs,
  smalls_both x v.own (v.kept ++ blocks_with vs),
  smalls_both x v.kept (blocks_with vs),
  blocks_smalls x vs,
)

pub blocks_wholes : (c : ℕ) (vs : List View) → wholes c (blocks_with vs) ≡ sum_by (whole_in c) vs
unfolding blocks_with
blocks_wholes c [] = wholes_none c
blocks_wholes c (v ∷ vs) = omega (
  arith,
  sum_by-cons (whole_in c) v vs,
  wholes_both c v.own (v.kept ++ blocks_with vs),
  wholes_both c v.kept (blocks_with vs),
  blocks_wholes c vs,
)

pub are_blocks : (key : Key) (vs : List View) → All (IsViewOf key) vs → All (IsBlock key) (blocks_with vs)
unfolding blocks_with
are_blocks key [] all = λ k d h. absurd (omega arith)
are_blocks key (v ∷ vs) all =
    let i : IsViewOf key v = All-head (IsViewOf key) v vs all in
    All-append (IsBlock key) v.own (v.kept ++ blocks_with vs) i.own
    (All-append (IsBlock key) v.kept (blocks_with vs) i.kept (are_blocks key vs (All-tail (IsViewOf key) v vs all)))

pub boot_are_blocks : (key : Key) → All (IsBlock key) (boot_blocks key)
unfolding boot_blocks
boot_are_blocks key = frames_are_blocks key (is_boot_frame key)

fixed_by : (key : Key) (b : Bool) → IsViewOf key (if b then ground_with key (boot_blocks key) else spent)
fixed_by key true = ground_is key (Some key) (boot_blocks key) refl (boot_are_blocks key)
fixed_by key false = spent_is key

-- the fixed ground is a view of its memory
pub fixed_is : (key : Key) → IsViewOf key (fixed_ground key)
unfolding fixed_ground
fixed_is key = fixed_by key key.sealed

outside : (key : Key) (x : ℕ) (b : FrameBlock) → IsBlock key b → frame_count key ≤ x → covers b x ≤ 0
unfolding covers
outside key x b i h = let e = i.inside in grind (arith, nat_tests)

pub none_outside : (key : Key) (x : ℕ) (bs : List FrameBlock) → All (IsBlock key) bs → frame_count key ≤ x
    → holders x bs ≡ 0
unfolding holders
none_outside key x [] all h = refl
none_outside key x (b ∷ bs) all h =
    omega (
      arith,
      sum_by-cons (λ c. covers c x) b bs,
      outside key x b (All-head (IsBlock key) b bs all) h,
      none_outside key x bs (All-tail (IsBlock key) b bs all) h,
    )

-- The views that are not the ground.

pub left_out : (v : View) (vs : List View) → v.is_ground ≡ true → seats_of (v ∷ vs) ≡ seats_of vs
left_out v vs e = rw e refl

pub stays_in : (v : View) (vs : List View) → v.is_ground ≡ false → seats_of (v ∷ vs) ≡ v ∷ seats_of vs
stays_in v vs e = rw e refl

seats_smalls : (x : ℕ) (vs : List View)
    → sum_by (small_in x) (seats_of vs) + sum_by (ground_small_in x) vs ≤ sum_by (small_in x) vs
seats_smalls x [] = omega arith
seats_smalls x (v ∷ vs) = by v.is_ground refl (seats_smalls x vs)
  where
    by : (b : Bool) → v.is_ground ≡ b
        → sum_by (small_in x) (seats_of vs) + sum_by (ground_small_in x) vs ≤ sum_by (small_in x) vs
        → sum_by (small_in x) (seats_of (v ∷ vs)) + sum_by (ground_small_in x) (v ∷ vs) ≤ sum_by (small_in x) (v ∷ vs)
    by true e others = omega (
      arith,
      ap (sum_by (small_in x)) (left_out v vs e),
      sum_by-cons (ground_small_in x) v vs,
      sum_by-cons (small_in x) v vs,
      others,
      ground-le x v,
    )
    by false e others = omega (
      arith,
      ap (sum_by (small_in x)) (stays_in v vs e),
      sum_by-cons (small_in x) v (seats_of vs),
      sum_by-cons (ground_small_in x) v vs,
      sum_by-cons (small_in x) v vs,
      others,
      ap (smalls x) (ground_none v e),
      smalls_none x,
    )

seats_wholes : (c : ℕ) (vs : List View) → sum_by (whole_in c) (seats_of vs) ≤ sum_by (whole_in c) vs
seats_wholes c [] = omega arith
seats_wholes c (v ∷ vs) = by v.is_ground refl (seats_wholes c vs)
  where
    by : (b : Bool) → v.is_ground ≡ b → sum_by (whole_in c) (seats_of vs) ≤ sum_by (whole_in c) vs
        → sum_by (whole_in c) (seats_of (v ∷ vs)) ≤ sum_by (whole_in c) (v ∷ vs)
    by true e others = omega (
      arith,
      ap (sum_by (whole_in c)) (left_out v vs e),
      sum_by-cons (whole_in c) v vs,
      others,
    )
    by false e others = omega (
      arith,
      ap (sum_by (whole_in c)) (stays_in v vs e),
      sum_by-cons (whole_in c) v (seats_of vs),
      sum_by-cons (whole_in c) v vs,
      others,
    )

seats_are : (key : Key) (vs : List View) → All (IsViewOf key) vs → All (IsViewOf key) (seats_of vs)
seats_are key [] all = all
seats_are key (v ∷ vs) all = by v.is_ground refl (seats_are key vs (All-tail (IsViewOf key) v vs all))
  where
    by : (b : Bool) → v.is_ground ≡ b → All (IsViewOf key) (seats_of vs) → All (IsViewOf key) (seats_of (v ∷ vs))
    by true e others = subst (All (IsViewOf key)) (sym (left_out v vs e)) others
    by false e others = subst (All (IsViewOf key)) (sym (stays_in v vs e))
        (All-cons (IsViewOf key) v (seats_of vs) (All-head (IsViewOf key) v vs all) others)

module _ (key : Key) (shares : ℕ) (ws : List ℕ) (vs : List View) (fit : Fit key shares ws vs) where
  seats_blocks : All (IsBlock key) (blocks_with (seats_of vs))
  seats_blocks = are_blocks key (seats_of vs) (seats_are key vs fit.each)

  -- who is not the ground has no frame past the end
  pub inside : (x : ℕ) → key.frames ≤ x → holders x (blocks_with (seats_of vs)) ≡ 0
  inside x p =
      ⊎_elim
      (λ h. omega (
        arith,
        holders_are key x (blocks_with (seats_of vs)) seats_blocks,
        blocks_smalls x (seats_of vs),
        blocks_wholes (child_of x) (seats_of vs),
        seats_smalls x vs,
        seats_wholes (child_of x) vs,
        fit.past_end x p h,
        past_held key shares ws vs fit x p h,
        past_unflagged key shares ws vs fit x p h,
        fit.wholes (child_of x) (omega arith),
        total_is key (ground_small_in x) vs,
        total_is key (small_in x) vs,
        total_is key (whole_in (child_of x)) vs,
        ground-le x (fixed_ground key),
      ))
      (λ h. none_outside key x (blocks_with (seats_of vs)) seats_blocks h)
      (cases_lt x (frame_count key))

  pub holding_blocks : All (IsBlock key) (holding_of key vs)
  holding_blocks = are_blocks key (all_views key vs) (All-cons (IsViewOf key) (fixed_ground key) vs (fixed_is key) fit.each)

  pub once : (x : ℕ) → x < frame_count key → holders x (holding_of key vs) ≤ 1
  unfolding total
  once x h =
      omega (
        arith,
        holders_are key x (holding_of key vs) holding_blocks,
        blocks_smalls x (all_views key vs),
        blocks_wholes (child_of x) (all_views key vs),
        fit.apart x h,
        fit.wholes (child_of x) (omega arith),
      )

  pub safe : IsSafe key ws vs
  safe = record {
    held = record {
      blocks = holding_blocks;
      disjoint = λ x. ⊎_elim (λ h. once x h)
          (λ h. omega (arith, none_outside key x (holding_of key vs) holding_blocks h)) (cases_lt x (frame_count key));
    };
    inside = inside;
    entries = λ c h. omega (arith, fit.entries_add_up c h, held_is key ws c);
    huge = λ c h q. omega (arith, fit.entries_add_up c h, held_is key ws c);
    trees = λ t h. omega (arith, fit.trees_add_up t h);
  }

pub every_fit_is_safe : EveryFitIsSafe
every_fit_is_safe = safe
