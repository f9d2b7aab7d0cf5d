-- The bits and flags of frames that are left, and the blocks that they show.
use Rattle.std.proofs.Common.{◌≡◌, ◌≢◌, ⊎_elim, inl, inr, ◌⊎◌, ℕ, ◌+◌, ◌*◌, ◌/◌, ◌%◌, ◌^◌, ◌<◌, ◌≤◌, List, length, refl, ap, sym, ◌∙◌}
use Rattle.std.proofs.Common.{arith}
use Rattle.std.specs.Prelude.{Bool, true, false, MatchBool, bit_and, nat_eq, slice_index, slice_index_or, slice_set}
use Rattle.std.proofs.lemmas.Bool.{eqb-true, eqb-false, cases_eq, cases_lt}
use Rattle.std.proofs.lemmas.Bool.Decides.{nat_tests}
use Rattle.std.specs.Int.{bit_at, bit_not, w64}
use Rattle.std.proofs.lemmas.List.{get_or-set_same, get_or-set_other, length-set}
use Rattle.std.proofs.lemmas.Nat.{pow_pos}
use Rattle.std.proofs.lemmas.Nat.Bits.{bit_at-lt, shr_and_one, bit_at_clear_same, bit_at_clear_other}
use Rattle.frame_words.specs.Words.{flag}
use Rattle.frame_words.specs.declared.geometry.Geometry.{Geometry}
use Rattle.frame_model.specs.declared.block.FrameBlock.{FrameBlock}
use Rattle.frame_model.specs.declared.key.Key.{Key}
use Rattle.frame_model.specs.Key.{key_of, child_of, AreSizes}
use Rattle.frame_model.specs.Words.{bits_place, bit_word_of, bit_of}
use Rattle.frame_model.specs.Rebuilt.{IsRebuilt}
use Rattle.frame_model.specs.Openings.{held_blocks}
use Rattle.frame_model.proofs.Opening.{held_are_blocks, held_smalls, held_wholes}
use Rattle.frame_model.specs.Block.{covers, small_at, whole_at}
use Rattle.frame_model.specs.Steps.Amounts.{Leaves}
use Rattle.frame_model.specs.Without.{without}
use Rattle.frame_model.proofs.Blocks.{not_small, not_whole}
use Rattle.frame_model.proofs.Without.{without_leaves}
use Rattle.frame_table.specs.Openings.{unsealed_key, IsLeft}
use Rattle.core_frames.specs.LeftFrames.{bit_in, flag_at, AreBitWordsOf, AreFlagsOf, Shows, IsShown, HasCleared}

-- Tests of bits.

by_test : (b : Bool) (P Q : Type 0) → (b ≡ true → P) → (b ≡ false → Q) → MatchBool b P Q
by_test true P Q p q = p refl
by_test false P Q p q = q refl

pub set_or_clear : (bits : List ℕ) (x : ℕ)
    → MatchBool (nat_eq (bit_and (slice_index bits (x / 64) / 2 ^ (x % 64)) 1) 1) (bit_in bits x ≡ 1) (bit_in bits x ≡ 0)
set_or_clear bits x =
    let n : ℕ = slice_index bits (x / 64) in
    let e : bit_and (n / 2 ^ (x % 64)) 1 ≡ bit_at n (x % 64) = shr_and_one n (x % 64) in
    by_test (nat_eq (bit_and (n / 2 ^ (x % 64)) 1) 1) (bit_in bits x ≡ 1) (bit_in bits x ≡ 0)
    (λ t. sym e ∙ eqb-true (bit_and (n / 2 ^ (x % 64)) 1) 1 t)
    (λ f. let ne : bit_and (n / 2 ^ (x % 64)) 1 ≡ 1 → ⊥ = eqb-false (bit_and (n / 2 ^ (x % 64)) 1) 1 f in
    omega (arith, e, bit_at-lt n (x % 64), ne))

-- A bit is cleared.

pub clear_here : (bits : List ℕ) (x n : ℕ) → x < 64 * length bits
    → bit_in (slice_set bits (x / 64) (bit_and n (bit_not w64 (1 * 2 ^ (x % 64) % 2 ^ 64)))) x ≡ 0
clear_here bits x n h =
    let m : ℕ = bit_and n (bit_not w64 (1 * 2 ^ (x % 64) % 2 ^ 64)) in
    ap (λ k. bit_at k (x % 64)) (get_or-set_same bits (x / 64) m 0 (omega arith))
    ∙ bit_at_clear_same w64 n (x % 64) (omega arith)

pub clear_else : (bits : List ℕ) (x y n : ℕ) → x < 64 * length bits → n ≡ slice_index bits (x / 64) → y ≢ x
    → bit_in (slice_set bits (x / 64) (bit_and n (bit_not w64 (1 * 2 ^ (x % 64) % 2 ^ 64)))) y ≡ bit_in bits y
clear_else bits x y n h is apart =
    let m : ℕ = bit_and n (bit_not w64 (1 * 2 ^ (x % 64) % 2 ^ 64)) in
    ⊎_elim
    (λ same.
    let now : slice_index (slice_set bits (x / 64) m) (y / 64) ≡ m =
    ap (slice_index (slice_set bits (x / 64) m)) same ∙ get_or-set_same bits (x / 64) m 0 (omega arith) in
    let was : n ≡ slice_index bits (y / 64) = is ∙ sym (ap (slice_index bits) same) in
    ap (λ k. bit_at k (y % 64)) now
    ∙ bit_at_clear_other w64 n (x % 64) (omega arith) (y % 64) (omega arith) (λ e. apart (omega (arith, e, same)))
    ∙ ap (λ k. bit_at k (y % 64)) was)
    (λ else. ap (λ k. bit_at k (y % 64)) (get_or-set_other bits (x / 64) (y / 64) m 0 else))
    (cases_eq (y / 64) (x / 64))

-- Where a block lies.

small_inside : (x : ℕ) (b : FrameBlock) → b.order < 9 → b.frame ≤ x → x < b.frame + 2 ^ b.order → small_at x b ≡ 1
unfolding small_at covers
small_inside x b low l h = grind (arith, nat_tests)

small_outside : (x : ℕ) (b : FrameBlock) → (x < b.frame) ⊎ (b.frame + 2 ^ b.order ≤ x) → small_at x b ≡ 0
unfolding small_at covers
small_outside x b out = ⊎_elim (λ l. grind (arith, nat_tests)) (λ h. grind (arith, nat_tests)) out

whole_itself : (b : FrameBlock) → b.order ≡ 9 → b.frame % 512 ≡ 0 → whole_at (child_of b.frame) b ≡ 1
unfolding whole_at
whole_itself b nine whole = grind (arith, nat_tests)

whole_else : (c : ℕ) (b : FrameBlock) → c ≢ child_of b.frame → whole_at c b ≡ 0
unfolding whole_at
whole_else c b apart = grind (arith, nat_tests)

covered : (b : FrameBlock) (x : ℕ) → covers b x ≡ 1 → (b.frame ≤ x) × (x < b.frame + 2 ^ b.order)
unfolding covers
covered b x h = grind (arith, nat_tests)

covering : (b : FrameBlock) (x : ℕ) → b.frame ≤ x → x < b.frame + 2 ^ b.order → covers b x ≡ 1
unfolding covers
covering b x l h = grind (arith, nat_tests)

inside_or_not : (b : FrameBlock) (x : ℕ)
    → ((b.frame ≤ x) × (x < b.frame + 2 ^ b.order)) ⊎ ((x < b.frame) ⊎ (b.frame + 2 ^ b.order ≤ x))
inside_or_not b x =
    ⊎_elim (λ l. inr (inl l))
    (λ l. ⊎_elim (λ h. inl (l, h)) (λ h. inr (inr h)) (cases_lt x (b.frame + 2 ^ b.order)))
    (cases_lt x b.frame)

-- A block is cleared.

pub cleared_run : (b : FrameBlock) (bits new : List ℕ) (huge : List Bool) → b.order < 9
    → IsShown (64 * length bits) bits huge b → length new ≡ length bits
    → ((x : ℕ) → b.frame ≤ x → x < b.frame + 2 ^ b.order → bit_in new x ≡ 0)
    → ((x : ℕ) → (x < b.frame) ⊎ (b.frame + 2 ^ b.order ≤ x) → bit_in new x ≡ bit_in bits x)
    → HasCleared b bits huge new huge
cleared_run b bits new huge low is count clear others = record {
  bit_words = count;
  flags = refl;
  cleared = λ x h.
      ⊎_elim (λ at. omega (arith, clear x at.0 at.1, small_inside x b low at.0 at.1, is.set low x at.0 at.1))
      (λ out. omega (arith, others x out, small_outside x b out)) (inside_or_not b x);
  unflagged = λ c h. omega (arith, not_whole c b low);
}

pub cleared_child : (b : FrameBlock) (frames : ℕ) (bits : List ℕ) (huge : List Bool) (c : ℕ) → b.order ≡ 9
    → IsShown frames bits huge b → c ≡ child_of b.frame → c < length huge
    → HasCleared b bits huge bits (slice_set huge c false)
cleared_child b frames bits huge c nine is at inside = record {
  bit_words = refl;
  flags = length-set huge c false;
  cleared = λ x h. omega (arith, not_small x b nine);
  unflagged = λ d h.
      ⊎_elim
      (λ same.
      let there : d ≡ c = same ∙ sym at in
      let now : flag_at (slice_set huge c false) d ≡ 0 =
      ap (flag_at (slice_set huge c false)) there ∙ ap flag (get_or-set_same huge c false false inside) in
      let whole : b.frame % 512 ≡ 0 = omega (arith, is.aligned, ap (λ o. b.frame % 2 ^ o) nine) in
      omega (arith, now, ap (λ k. whole_at k b) same, whole_itself b nine whole, ap (flag_at huge) same, is.flagged nine))
      (λ else.
      let ne : d ≢ c = (λ e. else (e ∙ at)) in
      omega (arith, ap flag (get_or-set_other huge c d false false ne), whole_else d b else))
      (cases_eq d (child_of b.frame));
}

-- What is shown is left, and what is left is shown.

module _ (key : Key) (sizes : AreSizes key) (bits : List ℕ) (huge : List Bool) (left : List FrameBlock)
    (shows : Shows key bits huge left) (b : FrameBlock) where
  pub shown_is_left : b.order ≤ 9 → IsShown key.frames bits huge b → IsLeft key left b
  shown_is_left order is =
      let end : b.frame + 2 ^ b.order ≤ 512 * key.children = omega (arith, is.exists, sizes.inside) in
      record {
        is_block = record { order = order; aligned = is.aligned; inside = end };
        exists = is.exists;
        held = record {
          smalls = λ low x c.
              let at = covered b x c in
              omega (arith, shows.smalls x (omega (arith, at.1, end)), is.set low x at.0 at.1);
          wholes = λ nine. omega (
            arith,
            shows.wholes (child_of b.frame) (omega (arith, end, pow_pos b.order)),
            is.flagged nine,
          );
        };
      }

  flag_most : (huge : List Bool) (c : ℕ) → flag_at huge c ≤ 1
  flag_most huge c = one (slice_index_or huge c false)
    where
      one : (f : Bool) → flag f ≤ 1
      one true = omega arith
      one false = omega arith

  pub left_is_shown : IsLeft key left b → IsShown key.frames bits huge b
  left_is_shown l =
      let end : b.frame + 2 ^ b.order ≤ 512 * key.children = omega (arith, l.exists, sizes.inside) in
      record {
        aligned = l.is_block.aligned;
        exists = l.exists;
        set = λ low x f h. omega (
          arith,
          shows.smalls x (omega (arith, h, end)),
          l.held.smalls low x (covering b x f h),
        );
        flagged = λ nine. omega (
          arith,
          shows.wholes (child_of b.frame) (omega (arith, end, pow_pos b.order)),
          l.held.wholes nine,
          flag_most huge (child_of b.frame),
        );
      }

  -- once the block left, the new bits and flags show what remains
  pub shows_without : (new_bits : List ℕ) (new_huge : List Bool) → IsLeft key left b
      → HasCleared b bits huge new_bits new_huge → Shows key new_bits new_huge (without b left)
  shows_without new_bits new_huge l now =
      let rest : Leaves key left b (without b left) = without_leaves key b left l.is_block shows.blocks l.held in
      record {
        bit_words = now.bit_words ∙ shows.bit_words;
        flags = now.flags ∙ shows.flags;
        smalls = λ x h. omega (
          arith,
          rest.smalls x,
          shows.smalls x h,
          now.cleared x (omega (arith, shows.bit_words, h)),
        );
        wholes = λ c h. omega (
          arith,
          rest.wholes c,
          shows.wholes c h,
          now.unflagged c (omega (arith, shows.flags, h)),
        );
        blocks = rest.are_blocks;
      }

-- An image shows what it holds.

same_word : (g : Geometry) (ws : List ℕ) (w : ℕ) → bit_word_of (unsealed_key g) ws w ≡ bit_word_of (key_of g) ws w
unfolding bit_word_of bits_place
same_word g ws w = refl

bit_is : (key : Key) (ws : List ℕ) (x : ℕ) → bit_of key ws x ≡ bit_at (bit_word_of key ws (x / 64)) (x % 64)
unfolding bit_of
bit_is key ws x = refl

pub shown_at_first : (g : Geometry) (ws bits : List ℕ) (huge : List Bool) → IsRebuilt (unsealed_key g) ws ws
    → AreBitWordsOf (key_of g) ws bits → AreFlagsOf (key_of g) ws huge
    → Shows (unsealed_key g) bits huge (held_blocks (unsealed_key g) ws)
shown_at_first g ws bits huge r words flags =
    let key : Key = unsealed_key g in
    record {
      bit_words = words.count;
      flags = flags.count;
      smalls = λ x h.
          held_smalls key ws x h ∙ bit_is key ws x ∙ ap (λ n. bit_at n (x % 64)) (same_word g ws (x / 64))
          ∙ sym (ap (λ n. bit_at n (x % 64)) (words.each (x / 64) (omega arith)));
      wholes = λ c h. held_wholes key ws c h (r.in_range.huge c h) ∙ sym (flags.each c h);
      blocks = held_are_blocks key ws;
    }
