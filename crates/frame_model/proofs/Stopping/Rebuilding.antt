-- Rebuilt words equal their own rebuilding, and hold what was held.
use Rattle.std.proofs.Common.{◌≡◌, ◌⊎◌, inl, inr, ⊎_elim, ℕ, zero, suc, ◌+◌, ◌-◌, ◌*◌, ◌/◌, ◌%◌, ◌<◌, ◌≤◌, List, get_or, refl, ap, sym, ◌∙◌}
use Rattle.std.proofs.Common.{arith}
use Rattle.std.specs.Prelude.{if◌then◌else◌, nat_eq}
use Rattle.std.specs.Int.{bit_at}
use Rattle.std.proofs.lemmas.Bool.{cases_eq}
use Rattle.std.proofs.lemmas.Nat.Bits.{bit_at-zero}
use Rattle.frame_model.specs.declared.key.Key.{Key}
use Rattle.frame_model.specs.declared.view.View.{View}
use Rattle.frame_model.specs.Key.{frame_count, tree_count, child_of, children_in}
use Rattle.frame_model.specs.Words.{bits_place, bit_of, bit_word_of, set_of, huge_of, AreInRange}
use Rattle.frame_model.specs.View.{small_in, whole_in, fills, marks, IsViewOf}
use Rattle.frame_model.specs.Fit.{all_views, total, Fit}
use Rattle.frame_model.specs.Block.{wholes}
use Rattle.frame_model.specs.Holding.{holders}
use Rattle.frame_model.specs.Rebuilt.{rebuilt_free, rebuilt_in_tree, rebuilt_bits, IsRebuilt}
use Rattle.frame_model.specs.Laws.{holding_of}
use Rattle.frame_model.specs.Stops.{unsealed, EveryRebuildingIsExact}
use Rattle.frame_model.proofs.HeldBack.{in_range_unsealed}
use Rattle.frame_model.proofs.Sums.{range_same, sum_plus, sum_below}
use Rattle.frame_model.proofs.Amounts.{names-le}
use Rattle.frame_model.proofs.Keeps.{total_is}
use Rattle.frame_model.proofs.Opening.{free_exact, tree_exact, no_resting}
use Rattle.frame_model.proofs.ReportLemmas.{bits_of_child}
use Rattle.frame_model.proofs.Safe.{holders_are, blocks_smalls, blocks_wholes, holding_blocks}
use Rattle.frame_model.proofs.Steps.Shared.{fixed_fills, past_held, past_unflagged}

flag_by : (n x y : ℕ) → n ≤ 1
    → ((n ≡ 0) × ((if nat_eq n 0 then x else y) ≡ x)) ⊎ ((n ≡ 1) × ((if nat_eq n 0 then x else y) ≡ y))
flag_by zero x y l = inl (refl, refl)
flag_by (suc zero) x y l = inr (refl, refl)
flag_by (suc (suc n)) x y l = absurd (omega arith)

module _ (key : Key) (old new : List ℕ) (was : AreInRange key old) (r : IsRebuilt key old new) where
  -- the bit words of a child without the flag stay, those of one with it are 0
  kept_word : (w : ℕ) → w < 8 * key.children → huge_of old (w / 8) ≡ 0
      → bit_word_of key new w ≡ bit_word_of key old w
  unfolding rebuilt_bits
  kept_word w h z = r.bits w h ∙ rw z refl

  cleared_word : (w : ℕ) → w < 8 * key.children → huge_of old (w / 8) ≡ 1 → bit_word_of key new w ≡ 0
  unfolding rebuilt_bits
  cleared_word w h z = r.bits w h ∙ rw z refl

  pub kept_bit : (x : ℕ) → x < frame_count key → huge_of old (child_of x) ≡ 0
      → bit_of key new x ≡ bit_of key old x
  unfolding bit_of
  kept_bit x h z =
      let same : x / 64 / 8 ≡ child_of x = omega arith in
      ap (λ n. bit_at n (x % 64)) (kept_word (x / 64) (omega arith) (ap (huge_of old) same ∙ z))

  pub cleared_bit : (x : ℕ) → x < frame_count key → huge_of old (child_of x) ≡ 1 → bit_of key new x ≡ 0
  unfolding bit_of
  cleared_bit x h z =
      let same : x / 64 / 8 ≡ child_of x = omega arith in
      ap (λ n. bit_at n (x % 64)) (cleared_word (x / 64) (omega arith) (ap (huge_of old) same ∙ z)) ∙ bit_at-zero (x % 64)

  same_set : (c : ℕ) → c < key.children → huge_of old c ≡ 0 → set_of key new c ≡ set_of key old c
  same_set c h z =
      sym (bits_of_child key new r.in_range c h)
      ∙ range_same (bit_of key old) (bit_of key new) (512 * c) 512
      (λ x l u. let here : child_of x ≡ c = omega arith in kept_bit x (omega arith) (ap (huge_of old) here ∙ z))
      ∙ bits_of_child key old was c h

  free_again : (c : ℕ) → c < key.children → rebuilt_free key new c ≡ rebuilt_free key old c
  unfolding rebuilt_free
  free_again c h =
      ⊎_elim
      (λ (z : (huge_of old c ≡ 0) × _). rw (r.huge c h, z.0) (ap (λ n. 512 - n) (same_set c h z.0)))
      (λ (z : (huge_of old c ≡ 1) × _). rw (r.huge c h, z.0) refl)
      (flag_by (huge_of old c) 0 0 (was.huge c h))

  bits_again : (w : ℕ) → w < 8 * key.children → bit_word_of key new w ≡ rebuilt_bits key new w
  unfolding rebuilt_bits
  bits_again w h =
      let child : w / 8 < key.children = omega arith in
      ⊎_elim
      (λ (z : (huge_of old (w / 8) ≡ 0) × _). rw (r.huge (w / 8) child, z.0) refl)
      (λ (z : (huge_of old (w / 8) ≡ 1) × _). rw (r.huge (w / 8) child, z.0) (cleared_word w h z.0))
      (flag_by (huge_of old (w / 8)) 0 0 (was.huge (w / 8) child))

  tree_again : (t : ℕ) → t < tree_count key → rebuilt_in_tree key new t ≡ rebuilt_in_tree key old t
  unfolding rebuilt_in_tree
  tree_again t h = range_same (rebuilt_free key old) (rebuilt_free key new) (8 * t) (children_in key t)
      (λ c l u. free_again c (omega arith))

  pub again : IsRebuilt key new new
  again = record {
    in_range = r.in_range;
    huge = λ c h. refl;
    free = λ c h. r.free c h ∙ sym (free_again c h);
    bits = bits_again;
    trees = λ t h. r.trees t h ∙ sym (tree_again t h);
    unreserved = r.unreserved;
    resting = r.resting;
  }

pub every_rebuilding_is_exact : EveryRebuildingIsExact
every_rebuilding_is_exact key old new was r =
    let e : IsRebuilt key new new = again key old new was r in
    record { entries = free_exact key new e; trees = tree_exact key new e; unreserved = r.unreserved; resting = no_resting key new e }

-- The layout is that of the memory before the stop.

pub bit_unsealed : (key : Key) (ws : List ℕ) (x : ℕ) → bit_of (unsealed key) ws x ≡ bit_of key ws x
unfolding bit_of bit_word_of bits_place
bit_unsealed key ws x = refl

-- What is held, frame by frame.

module _ (key : Key) (shares : ℕ) (ws : List ℕ) (vs : List View) (fit : Fit key shares ws vs) where
  held_here : (x : ℕ) → x < frame_count key
      → holders x (holding_of key vs) ≡ total key (small_in x) vs + huge_of ws (child_of x)
  unfolding total
  held_here x h =
      omega (
        arith,
        holders_are key x (holding_of key vs) (holding_blocks key shares ws vs fit),
        blocks_smalls x (all_views key vs),
        blocks_wholes (child_of x) (all_views key vs),
        fit.wholes (child_of x) (omega arith),
      )

  fill_below : (x : ℕ) (u : View) → IsViewOf key u → fills x u ≤ whole_in (child_of x) u
  fill_below x u i =
      ⊎_elim
      (λ z. omega arith)
      (λ p. let q = i.filled (x / 64) (omega (arith, p)) in
      let same : x / 64 / 8 ≡ child_of x = omega arith in
      omega (arith, q.own, ap (λ j. wholes j u.own) same, names-le (x / 64) u.filled))
      (cases_eq (fills x u) 0)

  -- nobody fills a word of a child without the flag
  none_filled : (x : ℕ) → x < frame_count key → huge_of ws (child_of x) ≡ 0 → total key (fills x) vs ≡ 0
  none_filled x h z =
      omega (
        arith,
        fit.wholes (child_of x) (omega arith),
        total_is key (fills x) vs,
        total_is key (whole_in (child_of x)) vs,
        fixed_fills key x,
        sum_below (fills x) (whole_in (child_of x)) vs (λ k d l. fill_below x (get_or vs k d) (fit.each k d l)),
      )

  -- rebuilt words hold the very frames that were held
  pub held_then : (new : List ℕ) → IsRebuilt (unsealed key) ws new → (x : ℕ) → x < frame_count key
      → bit_of (unsealed key) new x + huge_of new (child_of x) ≡ holders x (holding_of key vs)
  held_then new r x h =
      let was : AreInRange (unsealed key) ws = in_range_unsealed key ws fit.words_in_range in
      let same : huge_of new (child_of x) ≡ huge_of ws (child_of x) = r.huge (child_of x) (omega arith) in
      ⊎_elim
      (λ (z : (huge_of ws (child_of x) ≡ 0) × _). omega (
        arith,
        same,
        kept_bit (unsealed key) ws new was r x h z.0,
        bit_unsealed key ws x,
        held_here x h,
        fit.bits x h,
        none_filled x h z.0,
        total_is key (marks x) vs,
        total_is key (small_in x) vs,
        total_is key (fills x) vs,
        sum_plus (small_in x) (fills x) vs,
      ))
      (λ (z : (huge_of ws (child_of x) ≡ 1) × _). omega (
        arith,
        same,
        cleared_bit (unsealed key) ws new was r x h z.0,
        held_here x h,
        fit.apart x h,
      ))
      (flag_by (huge_of ws (child_of x)) 0 0 (fit.words_in_range.huge (child_of x) (omega arith)))

  -- and the frames past the end stay set
  pub past_then : (new : List ℕ) → IsRebuilt (unsealed key) ws new → (x : ℕ) → key.frames ≤ x → x < frame_count key
      → bit_of (unsealed key) new x ≡ 1
  past_then new r x p h = omega (
    arith,
    held_then new r x h,
    held_here x h,
    r.huge (child_of x) (omega arith),
    past_held key shares ws vs fit x p h,
    past_unflagged key shares ws vs fit x p h,
  )
