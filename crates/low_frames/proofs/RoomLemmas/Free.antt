-- What the words leave free, and what leaves no block of an order free.
use Rattle.std.proofs.Common.{◌≡◌, ⊎_elim, ℕ, zero, suc, ◌+◌, ◌-◌, ◌*◌, ◌/◌, ◌%◌, ◌^◌, ◌<◌, ◌≤◌, List, None, refl, ap, sym, subst, ◌∙◌}
use Rattle.std.proofs.Common.{arith}
use Rattle.std.specs.List.{sum_by, range_with_len}
use Rattle.std.specs.Int.{bit_at}
use Rattle.std.proofs.lemmas.Nat.{pow_pos}
use Rattle.std.proofs.lemmas.List.Sums.{sum_by-cons}
use Rattle.frame_words.specs.Runs.{IsClearRun}
use Rattle.frame_words.proofs.BitLemmas.{aligned_inside}
use Rattle.frame_model.specs.declared.block.FrameBlock.{FrameBlock}
use Rattle.frame_model.specs.declared.key.Key.{Key}
use Rattle.frame_model.specs.declared.view.View.{View}
use Rattle.frame_model.specs.Key.{frame_count, child_of}
use Rattle.frame_model.specs.Block.{covers}
use Rattle.frame_model.specs.Words.{entry_of, free_of, huge_of, bit_word_of, bit_of, held_of, AreInRange}
use Rattle.frame_model.specs.View.{charged_in, count_in}
use Rattle.frame_model.specs.Report.{held_at, held_within}
use Rattle.frame_model.proofs.Amounts.{count_none}
use Rattle.frame_model.proofs.Blocks.{within_child}
use Rattle.frame_model.proofs.Words.{held_is}
use Rattle.frame_model.proofs.Steps.Shared.{bit-le, bit_is, free_is, flag_is}
use Rattle.frame_model.proofs.ReportLemmas.{range_le, range_ones, range_split, held_within-child}
use Rattle.low_frames.specs.Takes.{IsBlockIn}
use Rattle.low_frames.specs.Alone.{IsFreeIn, HasNoneIn, HasTooFew, IsNotWhole, HasNoRunIn}
use Rattle.low_frames.proofs.ViewLemmas.{is_covered}
use Rattle.low_frames.proofs.GiveLemmas.{aligned_in_word}
use Rattle.low_frames.proofs.RoomLemmas.Fits.{FitsAlone, entries_alone, range_alone}

-- Blocks in a child.

range_none : (f : ℕ → ℕ) (a n : ℕ) → ((d : ℕ) → a ≤ d → d < a + n → f d ≡ 0) → sum_by f (range_with_len a n) ≡ 0
range_none f a zero none = refl
range_none f a (suc n) none =
    omega (
      arith,
      sum_by-cons f a (range_with_len (a + 1) n),
      none a (omega arith) (omega arith),
      range_none f (a + 1) n (λ d l h. none d (omega arith) (omega arith)),
    )

-- a row of terms, none above 1, with a gap of zeros
range_gap : (f : ℕ → ℕ) (a k n m : ℕ) → ((d : ℕ) → a ≤ d → d < a + (k + (n + m)) → f d ≤ 1)
    → ((d : ℕ) → a + k ≤ d → d < a + k + n → f d ≡ 0) → sum_by f (range_with_len a (k + (n + m))) ≤ k + m
range_gap f a k n m few none =
    omega (
      arith,
      range_split f a k (n + m),
      range_split f (a + k) n m,
      range_none f (a + k) n none,
      range_le f (λ _. 1) a k (λ d l h. few d l (omega arith)),
      range_ones a k,
      range_le f (λ _. 1) (a + k + n) m (λ d l h. few d (omega arith) (omega arith)),
      range_ones (a + k + n) m,
    )

module _ (key : Key) (ws : List ℕ) (r : AreInRange key ws) where
  held-le : (x : ℕ) → x < frame_count key → held_at key ws x ≤ 1
  unfolding held_at
  held-le x h = omega (arith, bit-le key ws x, r.huge (child_of x) (omega arith))

  -- a free block among some frames is beside those of them that are held
  gap_within : (a k n m all : ℕ) → all ≡ k + (n + m) → a + all ≤ frame_count key
      → ((x : ℕ) → a + k ≤ x → x < a + k + n → held_at key ws x ≡ 0) → held_within key ws a all ≤ k + m
  unfolding held_within
  gap_within a k n m all e h none =
      subst (λ j. sum_by (held_at key ws) (range_with_len a j) ≤ k + m) (sym e)
      (range_gap (held_at key ws) a k n m (λ d l q. held-le d (omega arith)) none)

  -- a free block of a child is beside what is held of it
  pub held_room : (child order : ℕ) (b : FrameBlock) → child < key.children → IsBlockIn key child order b → IsFreeIn key ws b
      → held_of key ws child + 2 ^ order ≤ 512
  held_room child order b h is free =
      let ends : b.frame + 2 ^ b.order ≤ 512 * (b.frame / 512) + 512 = within_child b.order b.frame is.is_block.order
      is.is_block.aligned in
      let low : 512 * child ≤ b.frame = omega (arith, is.in_child) in
      let high : b.frame + 2 ^ b.order ≤ 512 * child + 512 = omega (arith, ends, is.in_child) in
      let n : 2 ^ b.order ≡ 2 ^ order = ap (λ o. 2 ^ o) is.has_order in
      let k : ℕ = b.frame - 512 * child in
      let m : ℕ = 512 * child + 512 - (b.frame + 2 ^ b.order) in
      let sizes : 512 ≡ k + (2 ^ b.order + m) = omega (arith, low, high) in
      let start : 512 * child + k ≡ b.frame = omega (arith, low) in
      let gap = gap_within (512 * child) k (2 ^ b.order) m 512 sizes (omega (arith, h))
      (λ x l q. free x (is_covered b x (omega (arith, l, start)) (omega (arith, q, start)))) in
      omega (arith, held_within-child key ws r child h, gap, n, sizes)

-- What leaves no block of an order free.

module _ (A : Type 0) (key : Key) (ws : List ℕ) (v : View) (fits : FitsAlone A key ws v) (alone : A) (child : ℕ)
    (inside : child < key.children) (none : v.charged ≡ None) where
  -- a free block of a child is in its count
  pub free_block_counts : (order : ℕ) (b : FrameBlock) → IsBlockIn key child order b → IsFreeIn key ws b
      → (2 ^ order ≤ free_of ws child) × (huge_of ws child ≡ 0)
  free_block_counts order b is free =
      let room : held_of key ws child + 2 ^ order ≤ 512 = held_room key ws (range_alone A key ws v fits) child order b inside is free in
      let nothing : charged_in child v ≡ 0 = ap (count_in child) none ∙ count_none child in
      let sums = entries_alone A key ws v fits alone child inside in
      (omega (arith, room, sums, nothing), omega (arith, held_is key ws child, room, pow_pos order))

  -- an entry that shows a huge frame or too few free frames
  pub none_of_few : (order : ℕ) → HasTooFew child (2 ^ order) ws → HasNoneIn key child order ws
  none_of_few order few b is free =
      let counts = free_block_counts order b is free in
      ⊎_elim (λ huge. omega (arith, huge, counts.1)) (λ less. omega (arith, less, counts.0)) few

  -- an entry that does not show the child free as a whole
  pub none_of_part : IsNotWhole child ws → HasNoneIn key child 9 ws
  unfolding free_of huge_of
  none_of_part part b is free =
      let counts = free_block_counts 9 b is free in
      let most : free_of ws child ≤ 512 = omega (arith, entries_alone A key ws v fits alone child inside) in
      part (omega (arith, counts.0, counts.1, most, free_is (entry_of ws child), flag_is (entry_of ws child)))

-- the bits of a free block of at most a word
free_bits : (key : Key) (ws : List ℕ) (b : FrameBlock) → IsFreeIn key ws b → (x : ℕ) → covers b x ≡ 1 → bit_of key ws x ≡ 0
unfolding held_at
free_bits key ws b free x h = omega (arith, free x h)

-- a free block of at most a word is a clear run of it
pub free_is_run : (key : Key) (ws : List ℕ) (child order : ℕ) (b : FrameBlock) → order ≤ 6 → IsBlockIn key child order b → IsFreeIn key ws b
    → IsClearRun (bit_word_of key ws (b.frame / 64)) order (b.frame % 64)
free_is_run key ws child order b few is free =
    let n : 2 ^ b.order ≡ 2 ^ order = ap (λ o. 2 ^ o) is.has_order in
    let aligned : b.frame % 2 ^ order ≡ 0 = subst (λ o. b.frame % 2 ^ o ≡ 0) is.has_order is.is_block.aligned in
    let here : b.frame % 64 % 2 ^ order ≡ 0 = (aligned_in_word b.frame order few aligned).0 in
    record {
      aligned = here;
      bits = record {
        inside = aligned_inside order (b.frame % 64) few here (omega arith);
        clear = λ i l h.
            let ends : b.frame % 64 + 2 ^ order ≤ 64 = aligned_inside order (b.frame % 64) few here (omega arith) in
            let x : ℕ = 64 * (b.frame / 64) + i in
            let word : x / 64 ≡ b.frame / 64 = omega (arith, h, ends) in
            let bit : x % 64 ≡ i = omega (arith, h, ends) in
            omega (
              arith,
              free_bits key ws b free x (is_covered b x (omega (arith, l)) (omega (arith, h, n))),
              bit_is key ws x (b.frame / 64) word,
              ap (bit_at (bit_word_of key ws (b.frame / 64))) bit,
            );
      };
    }

-- no clear run, no free block
pub none_of_runs : (key : Key) (ws : List ℕ) (child order : ℕ) → order ≤ 6 → HasNoRunIn key child order ws
    → HasNoneIn key child order ws
none_of_runs key ws child order few no_run b is free = no_run (b.frame / 64) (omega (arith, is.in_child)) (b.frame % 64)
    (free_is_run key ws child order b few is free)
