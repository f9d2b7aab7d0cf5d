-- What an image holds, followed from block to block.
use Rattle.std.proofs.Common.{◌≡◌, ⊎_elim, inl, inr, ℕ, suc, ◌+◌, ◌-◌, ◌*◌, ◌/◌, ◌%◌, ◌^◌, ◌<◌, ◌≤◌}
use Rattle.std.proofs.Common.{List, [], ◌∷◌, ◌++◌, refl, ap, sym, subst, ◌∙◌, arith}
use Rattle.std.specs.Prelude.{Bool, false, ◌||◌, nat_le, if◌then◌else◌}
use Rattle.std.specs.List.{list_any}
use Rattle.std.specs.List.Sorted.{IsPermutation}
use Rattle.std.proofs.Math.Nat.{pow-suc}
use Rattle.std.proofs.lemmas.Bool.{cases_eq, cases_lt}
use Rattle.std.proofs.lemmas.Bool.Decides.{nat_tests}
use Rattle.frame_model.specs.declared.block.FrameBlock.{FrameBlock}
use Rattle.frame_model.specs.declared.key.Key.{Key}
use Rattle.frame_model.specs.Block.{block, covers, smalls}
use Rattle.frame_model.specs.Holding.{holders}
use Rattle.frame_model.specs.Key.{child_of, is_boot_frame, is_in_range}
use Rattle.frame_model.specs.QuietTake.{FindsNone}
use Rattle.frame_model.specs.View.{boot_blocks}
use Rattle.frame_model.proofs.Opening.{boot_smalls, boot_wholes}
use Rattle.frame_model.proofs.Safe.{boot_are_blocks, holders_are}
use Rattle.frame_model.proofs.Stopping.Known.{holders_both}
use Rattle.frame_model.proofs.Without.{covers-le}
use Rattle.low_frames.proofs.ViewLemmas.{covered_from}
use Rattle.core_frames.proofs.PlainHeld.{holders_cons, holders_same}
use Rattle.core_frames.proofs.PlainSums.{covers_in, covers_below, covers_above}
use Rattle.core_frames.specs.PlainState.{PlainState, memory_by, held_by}
use Rattle.core_frames.specs.Splits.{AreHalves}
use Rattle.frame_slots.specs.Claims.{IsHeldAs}
use Rattle.frame_slots.specs.Numbers.{IsHeldBy, IsHugeIn}
use Rattle.llfree_c.specs.Replays.{HoldsAllOf, HoldsBlock, HoldsOnly}

inside_by : (end x : ℕ) → x < end → (nat_le end x || list_any (is_in_range x) []) ≡ false
inside_by end x h = grind (arith, nat_tests)

-- with no ranges, nobody is refused a frame inside
not_boot : (key : Key) (x : ℕ) → key.ranges ≡ [] → x < key.frames → is_boot_frame key x ≡ false
unfolding is_boot_frame
not_boot key x r h =
    ap (λ (rs : List (ℕ × ℕ)). nat_le key.frames x || list_any (is_in_range x) rs) r ∙ inside_by key.frames x h

named : Bool → ℕ
named b = if b then 1 else 0

no_boot : (key : Key) (x : ℕ) → key.ranges ≡ [] → x < key.frames → x < 512 * key.children
    → holders x (boot_blocks key) ≡ 0
unfolding named
no_boot key x r less inside =
    let none : named (is_boot_frame key x) ≡ 0 = ap named (not_boot key x r less) in
    let one : smalls x (boot_blocks key) ≡ named (is_boot_frame key x) = boot_smalls key x inside in
    omega (
      arith,
      holders_are key x (boot_blocks key) (boot_are_blocks key),
      one,
      none,
      boot_wholes key (child_of x),
    )

holders_none : (x : ℕ) → holders x [] ≡ 0
unfolding holders
holders_none x = refl

-- where no single frame is free, each is held
pub all_held : (state : PlainState) (new : List FrameBlock) → state.ranges ≡ []
    → FindsNone (memory_by state) (held_by state) new 0 → (numbers : List ℕ)
    → HoldsAllOf state.geometry.frames numbers (state.out ++ state.kept)
all_held state new r finds numbers x less held =
    let key : Key = memory_by state in
    let inside : x < 512 * state.geometry.children = omega (arith, less, state.geometry.frames_in_children) in
    let boot : holders x (boot_blocks key) ≡ 0 = no_boot key x r less inside in
    ⊎_elim
    (λ (e : holders x (held_by state) ≡ 0). absurd (finds.none (block x 0)
    (record { order = omega arith; aligned = omega arith; inside = omega (arith, inside) }) refl
    (λ y c.
    let from = covered_from (block x 0) y c in
    subst (λ (k : ℕ). holders k (held_by state) ≡ 0) (let s : x ≡ y = omega (arith, from.0, from.1) in s) e)))
    (λ ne. omega (arith, ne, boot, holders_both x (state.out ++ state.kept) (boot_blocks key)))
    (cases_eq (holders x (held_by state)) 0)

-- nothing is laid down or kept at first
pub nothing_laid : (numbers : List ℕ) (laid kept : List FrameBlock) → laid ≡ [] → kept ≡ [] → HoldsOnly numbers (laid ++ kept)
nothing_laid numbers laid kept none nothing x h = absurd (omega (
  arith,
  h,
  holders_both x laid kept,
  ap (holders x) none,
  ap (holders x) nothing,
  holders_none x,
))

-- a claimed block is held, frame by frame
pub claimed_held : (frames : ℕ) (numbers : List ℕ) (b : FrameBlock) → IsHeldAs frames numbers b → HoldsBlock numbers b
claimed_held frames numbers b is x low high = ⊎_elim
    (λ (e : b.order ≡ 9).
    let size : 2 ^ b.order ≡ 512 = ap (λ k. 2 ^ k) e in
    let begins : b.frame % 512 ≡ 0 = ap (λ k. b.frame % k) (sym size) ∙ is.aligned in
    let same : b.frame / 512 ≡ x / 512 = omega (arith, begins, low, high, size) in
    inl (subst (IsHugeIn numbers) same (is.huge e)))
    (λ ne. inr (is.set (omega (arith, is.order, ne)) x low high))
    (cases_eq b.order 9)

module _ (numbers : List ℕ) (b : FrameBlock) (kept : List FrameBlock) where
  -- a free block is given
  pub given_all : (frames : ℕ) (out new : List FrameBlock) → IsPermutation (b ∷ new) out
      → ((x : ℕ) → b.frame ≤ x → x < b.frame + 2 ^ b.order → ¬ IsHeldBy numbers x)
      → HoldsAllOf frames numbers (out ++ kept) → HoldsAllOf frames numbers (new ++ kept)
  given_all frames out new one free all x less held =
      let none : covers b x ≡ 0 = ⊎_elim
      (λ (e : covers b x ≡ 1). let from = covered_from b x e in absurd (free x from.0 from.1 held))
      (λ ne. omega (arith, ne, covers-le b x)) (cases_eq (covers b x) 1) in
      omega (
        arith,
        none,
        all x less held,
        holders_both x out kept,
        holders_both x new kept,
        holders_same x (b ∷ new) out one,
        holders_cons x b new,
      )

  -- a block is kept
  pub kept_all : (frames : ℕ) (out new more : List FrameBlock) → IsPermutation (b ∷ new) out
      → IsPermutation (b ∷ kept) more → HoldsAllOf frames numbers (out ++ kept)
      → HoldsAllOf frames numbers (new ++ more)
  kept_all frames out new more one two all x less held = omega (
    arith,
    all x less held,
    holders_both x out kept,
    holders_both x new more,
    holders_same x (b ∷ new) out one,
    holders_same x (b ∷ kept) more two,
    holders_cons x b new,
    holders_cons x b kept,
  )

  pub kept_only : (laid more : List FrameBlock) → IsPermutation (b ∷ kept) more → HoldsBlock numbers b
      → HoldsOnly numbers (laid ++ kept) → HoldsOnly numbers (laid ++ more)
  kept_only laid more two holds only x h = ⊎_elim
      (λ (e : covers b x ≡ 1). let from = covered_from b x e in holds x from.0 from.1)
      (λ ne. only x (omega (
        arith,
        h,
        ne,
        covers-le b x,
        holders_both x laid kept,
        holders_both x laid more,
        holders_same x (b ∷ kept) more two,
        holders_cons x b kept,
      )))
      (cases_eq (covers b x) 1)

  -- a block stays out
  pub laid_only : (laid : List FrameBlock) → HoldsBlock numbers b → HoldsOnly numbers (laid ++ kept)
      → HoldsOnly numbers ((laid ++ b ∷ []) ++ kept)
  laid_only laid holds only x h = ⊎_elim
      (λ (e : covers b x ≡ 1). let from = covered_from b x e in holds x from.0 from.1)
      (λ ne. only x (omega (
        arith,
        h,
        ne,
        covers-le b x,
        holders_both x laid kept,
        holders_both x (laid ++ b ∷ []) kept,
        holders_both x laid (b ∷ []),
        holders_cons x b [],
        holders_none x,
      )))
      (cases_eq (covers b x) 1)

  -- the halves of a block cover what it covers
  halves_cover : (l u : FrameBlock) (x : ℕ) → AreHalves b l u → covers l x + covers u x ≡ covers b x
  halves_cover l u x are =
      let o : ℕ = b.order - 1 in
      let size : 2 ^ b.order ≡ 2 ^ suc o = ap (λ k. 2 ^ k) (let s : b.order ≡ suc o = omega (arith, are.some) in s) in
      let double : 2 ^ suc o ≡ 2 ^ o * 2 = pow-suc 2 o in
      let first : FrameBlock = block b.frame o in
      let second : FrameBlock = block (b.frame + 2 ^ o) o in
      let low : covers l x ≡ covers first x = ap (λ (c : FrameBlock). covers c x) are.lower in
      let high : covers u x ≡ covers second x = ap (λ (c : FrameBlock). covers c x) are.upper in
      ⊎_elim
      (λ (h : x < b.frame). omega (arith, low, high, covers_below first x h, covers_below second x (omega (arith, h)), covers_below b x h))
      (λ from. ⊎_elim
      (λ (h : x < b.frame + 2 ^ o). omega (
        arith,
        low,
        high,
        covers_in first x (omega (arith, from)) h,
        covers_below second x h,
        covers_in b x (omega (arith, from)) (omega (arith, h, size, double)),
      ))
      (λ mid. ⊎_elim
      (λ (h : x < b.frame + 2 ^ b.order). omega (
        arith,
        low,
        high,
        covers_above first x (omega (arith, mid)),
        covers_in second x (omega (arith, mid)) (omega (arith, h, size, double)),
        covers_in b x (omega (arith, from)) h,
      ))
      (λ above. omega (
        arith,
        low,
        high,
        covers_above first x (omega (arith, mid)),
        covers_above second x (omega (arith, above, size, double)),
        covers_above b x (omega (arith, above)),
      ))
      (cases_lt x (b.frame + 2 ^ b.order)))
      (cases_lt x (b.frame + 2 ^ o)))
      (cases_lt x b.frame)

  -- a split leaves each frame held or free
  pub halved_holders : (l u : FrameBlock) (out new : List FrameBlock) → AreHalves b l u
      → IsPermutation (b ∷ new) (l ∷ u ∷ out) → (x : ℕ) → holders x new ≡ holders x out
  halved_holders l u out new are two x = omega (
    arith,
    halves_cover l u x are,
    holders_same x (b ∷ new) (l ∷ u ∷ out) two,
    holders_cons x b new,
    holders_cons x l (u ∷ out),
    holders_cons x u out,
  )

  pub halved_all : (frames : ℕ) (out new : List FrameBlock) → ((x : ℕ) → holders x new ≡ holders x out)
      → HoldsAllOf frames numbers (out ++ kept) → HoldsAllOf frames numbers (new ++ kept)
  halved_all frames out new same all x less held =
      omega (arith, all x less held, same x, holders_both x out kept, holders_both x new kept)

-- what lies in blocks is so in any order
pub only_still : (numbers : List ℕ) (kept old new : List FrameBlock) → IsPermutation old new
    → HoldsOnly numbers (old ++ kept) → HoldsOnly numbers (new ++ kept)
only_still numbers kept old new p only x h =
    only x (omega (arith, h, holders_both x old kept, holders_both x new kept, holders_same x old new p))
