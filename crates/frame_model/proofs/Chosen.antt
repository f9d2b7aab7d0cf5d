-- Blocks that are made of the numbers of a range that pass a test: how many of them hold a frame or are a child.
use Rattle.std.proofs.Common.{◌≡◌, ◌≢◌, ⊎_elim, ℕ, zero, suc, ◌+◌, ◌*◌, ◌%◌, ◌<◌, ◌≤◌, List, ◌∷◌, Bool, true, false, cond, refl, ap, sym, ◌∙◌}
use Rattle.std.proofs.Common.{arith}
use Rattle.std.specs.Prelude.{nat_eq, if◌then◌else◌, map, filter}
use Rattle.std.specs.Int.{bit_at}
use Rattle.std.specs.List.{sum_by, range_with_len, All}
use Rattle.std.proofs.lemmas.List.Sums.{sum_by-cons}
use Rattle.std.proofs.lemmas.List.Elements.{All-cons}
use Rattle.std.proofs.lemmas.Bool.{cases_eq, cases_lt}
use Rattle.std.proofs.lemmas.Bool.Decides.{nat_tests}
use Rattle.std.proofs.lemmas.Nat.Bits.{bit_at-lt}
use Rattle.frame_model.specs.declared.block.FrameBlock.{FrameBlock}
use Rattle.frame_model.specs.declared.key.Key.{Key}
use Rattle.frame_model.specs.Key.{frame_count}
use Rattle.frame_model.specs.Block.{block, IsBlock, small_at, whole_at, smalls, wholes, single_blocks}
use Rattle.frame_model.proofs.Blocks.{in_block, before_block, behind_block, not_whole, not_small, whole_here, whole_else, AreAt}

abbrev pub chosen : (ℕ → FrameBlock) → (ℕ → Bool) → ℕ → ℕ → List FrameBlock
chosen g p a n = map g (filter p (range_with_len a n))

module _ (g : ℕ → FrameBlock) (p : ℕ → Bool) where
  first_of_them : (f : FrameBlock → ℕ) (b : Bool) (a : ℕ) (xs : List ℕ)
      → sum_by f (map g (cond b (a ∷ xs) xs)) ≡ (if b then f (g a) else 0) + sum_by f (map g xs)
  first_of_them f true a xs = sum_by-cons f (g a) (map g xs)
  first_of_them f false a xs = omega arith

  pub chosen_none : (f : FrameBlock → ℕ) (a n : ℕ) → ((d : ℕ) → a ≤ d → d < a + n → f (g d) ≡ 0)
      → sum_by f (chosen g p a n) ≡ 0
  chosen_none f a zero none = refl
  chosen_none f a (suc n) none =
      omega (
        arith,
        first_of_them f (p a) a (filter p (range_with_len (a + 1) n)),
        nothing (p a) (f (g a)) (none a (omega arith) (omega arith)),
        chosen_none f (a + 1) n (λ d l h. none d (omega arith) (omega arith)),
      )
    where
      nothing : (b : Bool) (x : ℕ) → x ≡ 0 → (if b then x else 0) ≡ 0
      nothing true x e = e
      nothing false x e = refl

  -- a sum to which one number alone adds something
  pub chosen_one : (f : FrameBlock → ℕ) (x a n : ℕ) → a ≤ x → x < a + n → ((d : ℕ) → d ≢ x → f (g d) ≡ 0)
      → sum_by f (chosen g p a n) ≡ (if p x then f (g x) else 0)
  chosen_one f x a zero l h none = absurd (omega arith)
  chosen_one f x a (suc n) l h none =
      ⊎_elim
      (λ e. omega (
        arith,
        first_of_them f (p a) a (filter p (range_with_len (a + 1) n)),
        chosen_none f (a + 1) n (λ d low high. none d (λ s. omega arith)),
        ap (λ y. if p y then f (g y) else 0) e,
      ))
      (λ ne. omega (
        arith,
        first_of_them f (p a) a (filter p (range_with_len (a + 1) n)),
        nothing (p a) (f (g a)) (none a ne),
        chosen_one f x (a + 1) n (omega arith) (omega arith) none,
      ))
      (cases_eq a x)
    where
      nothing : (b : Bool) (y : ℕ) → y ≡ 0 → (if b then y else 0) ≡ 0
      nothing true y e = e
      nothing false y e = refl

  pub chosen_all : (P : FrameBlock → Type 0) (a n : ℕ) → ((d : ℕ) → a ≤ d → d < a + n → P (g d))
      → All P (chosen g p a n)
  chosen_all P a zero all = λ k d h. absurd (omega arith)
  chosen_all P a (suc n) all =
      by (p a) (all a (omega arith) (omega arith)) (chosen_all P (a + 1) n (λ d l h. all d (omega arith) (omega arith)))
    where
      by : (b : Bool) → P (g a) → All P (map g (filter p (range_with_len (a + 1) n)))
          → All P (map g (cond b (a ∷ filter p (range_with_len (a + 1) n)) (filter p (range_with_len (a + 1) n))))
      by true first others = All-cons P (g a) (map g (filter p (range_with_len (a + 1) n))) first others
      by false first others = others

-- frames as blocks of order 0

frame_here : (x : ℕ) → small_at x (block x 0) ≡ 1
frame_here x = in_block x (block x 0) (omega arith) (omega arith) (omega arith)

pub frame_else : (x d : ℕ) → d ≢ x → small_at x (block d 0) ≡ 0
frame_else x d ne = ⊎_elim (λ below. before_block x (block d 0) below) (λ above. behind_block x (block d 0) (omega arith)) (cases_lt x d)

module _ (p : ℕ → Bool) (n x : ℕ) (h : x < n) where
  pub frames_smalls : smalls x (chosen (λ f. block f 0) p 0 n) ≡ (if p x then 1 else 0)
  unfolding smalls
  frames_smalls = chosen_one (λ f. block f 0) p (small_at x) x 0 n (omega arith) (omega arith)
      (λ d ne. frame_else x d ne) ∙ ap (λ y. if p x then y else 0) (frame_here x)

pub frames_wholes : (p : ℕ → Bool) (n c : ℕ) → wholes c (chosen (λ f. block f 0) p 0 n) ≡ 0
unfolding wholes
frames_wholes p n c = chosen_none (λ f. block f 0) p (whole_at c) 0 n (λ d l h. not_whole c (block d 0) (omega arith))

pub frames_are_blocks : (key : Key) (p : ℕ → Bool)
    → All (IsBlock key) (chosen (λ f. block f 0) p 0 (frame_count key))
frames_are_blocks key p =
    chosen_all (λ f. block f 0) p (IsBlock key) 0 (frame_count key)
    (λ d l h. record { order = omega arith; aligned = omega arith; inside = omega arith })

-- the frames of a bit word at the bits of a mask

pub singles_at : (key : Key) (k mask : ℕ) → k < 8 * key.children → AreAt key k mask (single_blocks k mask)
unfolding single_blocks smalls wholes
singles_at key k mask inside =
    let p : ℕ → Bool = λ x. nat_eq (bit_at mask (x % 64)) 1 in
    record {
      are_blocks = chosen_all (λ f. block f 0) p (IsBlock key) (64 * k) 64
          (λ d l h. record { order = omega arith; aligned = omega arith; inside = omega (arith, inside) });
      here = λ x e. chosen_one (λ f. block f 0) p (small_at x) x (64 * k) 64 (omega arith) (omega arith) (λ d ne. frame_else x d ne)
          ∙ ap (λ y. if p x then y else 0) (frame_here x) ∙ as_bit (bit_at mask (x % 64)) (bit_at-lt mask (x % 64));
      elsewhere = λ x ne. chosen_none (λ f. block f 0) p (small_at x) (64 * k) 64 (λ d l h. frame_else x d (λ e. ne (omega arith)));
      no_wholes = λ c. chosen_none (λ f. block f 0) p (whole_at c) (64 * k) 64 (λ d l h. not_whole c (block d 0) (omega arith));
    }
  where
    as_bit : (n : ℕ) → n < 2 → (if nat_eq n 1 then 1 else 0) ≡ n
    as_bit n h = grind (arith, nat_tests)

-- children as blocks of order 9

pub children_wholes : (p : ℕ → Bool) (n c : ℕ) → c < n
    → wholes c (chosen (λ d. block (512 * d) 9) p 0 n) ≡ (if p c then 1 else 0)
unfolding wholes
children_wholes p n c h =
    chosen_one (λ d. block (512 * d) 9) p (whole_at c) c 0 n (omega arith) (omega arith)
    (λ d ne. whole_else d c (λ e. ne (sym e))) ∙ ap (λ y. if p c then y else 0) (whole_here c)

pub children_smalls : (p : ℕ → Bool) (n x : ℕ) → smalls x (chosen (λ d. block (512 * d) 9) p 0 n) ≡ 0
unfolding smalls
children_smalls p n x = chosen_none (λ d. block (512 * d) 9) p (small_at x) 0 n (λ d l h. not_small x (block (512 * d) 9) refl)

pub children_are_blocks : (key : Key) (p : ℕ → Bool)
    → All (IsBlock key) (chosen (λ d. block (512 * d) 9) p 0 key.children)
children_are_blocks key p =
    chosen_all (λ d. block (512 * d) 9) p (IsBlock key) 0 key.children
    (λ d l h. record { order = omega arith; aligned = omega arith; inside = omega arith })
