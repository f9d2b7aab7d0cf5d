-- The blocks in flight of plain moves: how many they are, and where they lie.
use Rattle.std.proofs.Common.{◌≡◌, ◌≢◌, ◌⊎◌, inl, inr, ⊎_elim, ℕ, zero, suc, ◌+◌, ◌*◌, ◌/◌, ◌%◌, ◌^◌, ◌<◌, ◌≤◌, List, [], ◌∷◌, length}
use Rattle.std.proofs.Common.{get_or, refl, ap, sym, ◌∙◌, arith}
use Rattle.std.specs.List.{sum_by, range_with_len, All}
use Rattle.std.proofs.Math.Logic.{∥∥₁_elim}
use Rattle.std.proofs.Math.Bridge.{le_prop}
use Rattle.std.proofs.lemmas.Bool.{cases_lt, cases_eq}
use Rattle.std.proofs.lemmas.Bool.Decides.{nat_tests}
use Rattle.std.proofs.lemmas.Nat.{pow_pos}
use Rattle.std.proofs.Math.Nat.{pow-suc}
use Rattle.std.specs.Int.{w32, w64, bit_at}
use mir.Syntax.{Width}
use mir.Val.{bits}
use Rattle.std.specs.Int.Count.{ones, count_trailing_zeros}
use Rattle.std.proofs.lemmas.Nat.Bits.{bit_at-trailing_zeros}
use Rattle.frame_model.proofs.Bits.{ones_zero, ones_run, bit_at_run_inside, bit_at_run_below}
use Rattle.std.proofs.lemmas.List.Sums.{sum_by-cons}
use Rattle.std.proofs.lemmas.List.Elements.{All-head, All-tail}
use Rattle.frame_model.specs.declared.block.FrameBlock.{FrameBlock}
use Rattle.frame_model.specs.declared.key.Key.{Key}
use Rattle.frame_model.specs.declared.view.View.{View}
use Rattle.frame_model.specs.Key.{child_of}
use Rattle.frame_model.specs.Block.{IsBlock, small_at, whole_at, smalls, wholes}
use Rattle.frame_model.specs.Words.{run, bits_place, huge_of}
use Rattle.frame_model.specs.View.{small_in, whole_in, LiesIn, IsViewOf}
use Rattle.frame_model.specs.Fit.{Fit}
use Rattle.frame_model.proofs.Sums.{sum_plus, range_same, range_at}
use Rattle.frame_model.proofs.Opening.{range_all}
use Rattle.frame_model.proofs.Blocks.{smalls_cons, wholes_cons, in_block}
use Rattle.frame_model.proofs.Steps.Shared.{view_of, at-le-total, bit_word_is}
use Rattle.plain_moves.specs.declared.plain.party.Company.{Company}
use Rattle.plain_moves.specs.Plain.{IsLow, Agrees}

pub whole_of : (key : Key) (d : FrameBlock) → IsBlock key d → 9 ≤ d.order → whole_at (child_of d.frame) d ≡ 1
unfolding whole_at
whole_of key d b h =
    let nine : d.order ≡ 9 = omega (arith, b.order) in
    let a : d.frame % 2 ^ 9 ≡ 0 = ap (λ n. d.frame % 2 ^ n) (sym nine) ∙ b.aligned in
    let f : d.frame ≡ 512 * (d.frame / 512) = omega (arith, a) in
    grind (arith, nat_tests)

range_few : (f : ℕ → ℕ) (a n : ℕ) → ((d : ℕ) → a ≤ d → d < a + n → f d ≤ 1) → sum_by f (range_with_len a n) ≤ n
range_few f a zero all = omega arith
range_few f a (suc n) all =
    omega (
      arith,
      sum_by-cons f a (range_with_len (a + 1) n),
      range_few f (a + 1) n (λ d l h. all d (omega arith) (omega arith)),
      all a (omega arith) (omega arith),
    )

-- the frames of the child c are those from a on, n of them; neither is written as a number here
module _ (key : Key) (c a n : ℕ) (begins : a ≡ 512 * c) (ends : n ≡ 512) where
  -- a block whose frames all lie in the child begins in it
  lies : (d : FrameBlock) → IsBlock key d → ((x : ℕ) → child_of x ≢ c → small_at x d ≡ 0)
      → ((e : ℕ) → e ≢ c → whole_at e d ≡ 0) → child_of d.frame ≡ c
  lies d b small whole =
      ⊎_elim
      (λ low.
      let one : small_at d.frame d ≡ 1 = in_block d.frame d low (omega arith) (omega (arith, pow_pos d.order)) in
      ⊎_elim (λ e. e) (λ ne. absurd (omega (arith, one, small d.frame ne))) (cases_eq (child_of d.frame) c))
      (λ high.
      let one : whole_at (child_of d.frame) d ≡ 1 = whole_of key d b high in
      ⊎_elim (λ e. e) (λ ne. absurd (omega (arith, one, whole (child_of d.frame) ne))) (cases_eq (child_of d.frame) c))
      (cases_lt d.order 9)

  -- it has a frame in the child, or is all of it
  counts : (d : FrameBlock) → IsBlock key d → child_of d.frame ≡ c → 1 ≤ sum_by (λ x. small_at x d) (range_with_len a n) + whole_at c d
  counts d b here =
      ⊎_elim
      (λ low.
      let one : small_at d.frame d ≡ 1 = in_block d.frame d low (omega arith) (omega (arith, pow_pos d.order)) in
      let part = range_at (λ x. small_at x d) a n d.frame (omega (arith, here, begins)) (omega (arith, here, begins, ends)) in
      omega (arith, one, part))
      (λ high.
      let one : whole_at (child_of d.frame) d ≡ 1 = whole_of key d b high in
      omega (arith, one, ap (λ e. whole_at e d) here))
      (cases_lt d.order 9)

  one_more : (d : FrameBlock) (ds : List FrameBlock)
      → sum_by (λ x. smalls x (d ∷ ds)) (range_with_len a n) ≡ sum_by (λ x. small_at x d) (range_with_len a n)
      + sum_by (λ x. smalls x ds) (range_with_len a n)
  one_more d ds =
      range_same (λ x. small_at x d + smalls x ds) (λ x. smalls x (d ∷ ds)) a n (λ x l h. smalls_cons x d ds)
      ∙ sum_plus (λ x. small_at x d) (λ x. smalls x ds) (range_with_len a n)

  few : (blocks : List FrameBlock) → All (IsBlock key) blocks → ((x : ℕ) → child_of x ≢ c → smalls x blocks ≡ 0)
      → ((e : ℕ) → e ≢ c → wholes e blocks ≡ 0)
      → length blocks ≤ sum_by (λ x. smalls x blocks) (range_with_len a n) + wholes c blocks
  few [] all small whole = omega arith
  few (d ∷ ds) all small whole =
      let b = All-head (IsBlock key) d ds all in
      let here = lies d b (λ x ne. omega (arith, small x ne, smalls_cons x d ds)) (λ e ne. omega (arith, whole e ne, wholes_cons e d ds)) in
      let one = counts d b here in
      let others = few ds (All-tail (IsBlock key) d ds all) (λ x ne. omega (arith, small x ne, smalls_cons x d ds))
      (λ e ne. omega (arith, whole e ne, wholes_cons e d ds)) in
      omega (arith, one, others, one_more d ds, wholes_cons c d ds)

  -- where there is a block, the child is one of memory
  inside_or_none : (blocks : List FrameBlock) → All (IsBlock key) blocks
      → ((x : ℕ) → child_of x ≢ c → smalls x blocks ≡ 0) → ((e : ℕ) → e ≢ c → wholes e blocks ≡ 0)
      → (length blocks ≡ 0) ⊎ (c < key.children)
  inside_or_none [] all small whole = inl refl
  inside_or_none (d ∷ ds) all small whole =
      let b = All-head (IsBlock key) d ds all in
      let here = lies d b (λ x ne. omega (arith, small x ne, smalls_cons x d ds)) (λ e ne. omega (arith, whole e ne, wholes_cons e d ds)) in
      inr (omega (arith, here, b.inside, pow_pos d.order))

  few_in : {them : Company} (words bytes : List ℕ) (v : View) (s : 0 < v.share) (g : Agrees key them words bytes v) → LiesIn v c
      → length v.own ≤ 512
  few_in {them = them} words bytes v share g l =
      let fit : Fit key g.shares words (v ∷ g.others) = g.fit in
      let i : IsViewOf key v = view_of key g.shares words (v ∷ g.others) 0 v fit refl in
      let all = few v.own i.own l.smalls l.wholes in
      ⊎_elim
      (λ none. omega (arith, none))
      (λ inside.
      let apart : (x : ℕ) → a ≤ x → x < a + n → smalls x v.own + huge_of words c ≤ 1 = (λ x low high.
      let e : child_of x ≡ c = omega (arith, begins, ends, low, high) in
      let f = fit.apart x (omega (arith, inside, begins, ends, high)) in
      let p = at-le-total key g.shares words (v ∷ g.others) 0 v fit refl (small_in x) in
      omega (arith, f, p, ap (huge_of words) e)) in
      let whole : wholes c v.own ≤ huge_of words c =
      omega (arith, fit.wholes c inside, at-le-total key g.shares words (v ∷ g.others) 0 v fit refl (whole_in c)) in
      ⊎_elim
      (λ none.
      let most = range_few (λ x. smalls x v.own) a n (λ x low high. omega (arith, apart x low high)) in
      omega (arith, all, whole, none, most, ends))
      (λ some.
      let least = range_all (λ x. smalls x v.own) 0 a n (λ x low high. omega (arith, apart x low high, some)) in
      omega (arith, all, whole, fit.words_in_range.huge c inside, least))
      (cases_eq (huge_of words c) 0))
      (inside_or_none v.own i.own l.smalls l.wholes)

-- what a view has in flight is at most 512 blocks
few_at : {them : Company} (key : Key) (words bytes : List ℕ) (v : View) → 0 < v.share → Agrees key them words bytes v → length v.own ≤ 512
few_at {them = them} key words bytes v share g =
    let i : IsViewOf key v = view_of key g.shares words (v ∷ g.others) 0 v g.fit refl in
    few_in key (i.one_child share).0 (512 * (i.one_child share).0) 512 refl refl words bytes v share g (i.one_child share).1

pub few_own : {them : Company} (key : Key) (words bytes : List ℕ) (v : View) → ∥ Agrees key them words bytes v ∥₁ → 0 < v.share
    → length v.own ≤ 512
few_own {them = them} key words bytes v agrees share = ∥∥₁_elim agrees le_prop (few_at key words bytes v share)

low_at : {them : Company} (key : Key) (words bytes : List ℕ) (v : View) → key.children ≤ 4096 → Agrees key them words bytes v
    → All IsLow v.own
low_at {them = them} key words bytes v small a = λ k d h.
    let i : IsViewOf key v = view_of key a.shares words (v ∷ a.others) 0 v a.fit refl in
    let b = i.own k d h in
    (b.order, omega (arith, b.inside, small))

-- each block in flight lies low
pub low_own : {them : Company} (key : Key) (words bytes : List ℕ) (v : View) → key.children ≤ 4096
    → ∥ Agrees key them words bytes v ∥₁ → All IsLow v.own
low_own {them = them} key words bytes v small agrees = λ k d h. (
  ∥∥₁_elim agrees le_prop (λ (a : Agrees key them words bytes v). (low_at key words bytes v small a k d h).0),
  ∥∥₁_elim agrees le_prop (λ (a : Agrees key them words bytes v). (low_at key words bytes v small a k d h).1),
)

-- The bits of a run tell which run it is.

tz_is : (w : Width) (n from : ℕ) → 0 < n → n < 2 ^ bits w → bit_at n from ≡ 1 → ((i : ℕ) → i < from → bit_at n i ≡ 0)
    → count_trailing_zeros (bits w) n ≡ from
tz_is w n from some low one none =
    let t = bit_at-trailing_zeros w n some low in
    ⊎_elim
    (λ less. absurd (omega (arith, t.1, none (count_trailing_zeros (bits w) n) less)))
    (λ more. ⊎_elim (λ e. e) (λ ne. absurd (omega (arith, one, t.2 from (omega (arith, more, ne)))))
    (cases_eq (count_trailing_zeros (bits w) n) from))
    (cases_lt (count_trailing_zeros (bits w) n) from)

run_some : (from k : ℕ) → 0 < k → 0 < run from k
run_some from k h =
    ⊎_elim (λ z. absurd (omega (arith, ap ones z, ones_zero, ones_run from k, h))) (λ s. omega (arith, s))
    (cases_eq (run from k) 0)

one_run : (order : ℕ) → run order 1 ≡ 2 ^ order
one_run order = let p = pow-suc 2 order in let e : order + 1 ≡ suc order = omega arith in rw e (omega (arith, p))

pub run_from : (mask from order : ℕ) → mask < 2 ^ 64 → mask ≡ run from (2 ^ order) → count_trailing_zeros 64 mask ≡ from
run_from mask from order low e =
    let some = run_some from (2 ^ order) (pow_pos order) in
    tz_is w64 mask from (omega (arith, some, e)) low
    (ap (λ n. bit_at n from) e ∙ bit_at_run_inside from (2 ^ order) from (omega arith) (omega (arith, pow_pos order)))
    (λ i h. ap (λ n. bit_at n i) e ∙ bit_at_run_below from (2 ^ order) i h)

pub run_order : (mask from order : ℕ) → ones mask < 2 ^ 32 → mask ≡ run from (2 ^ order) → count_trailing_zeros 32 (ones mask) ≡ order
run_order mask from order low e =
    let is : ones mask ≡ run order 1 = ap ones e ∙ ones_run from (2 ^ order) ∙ sym (one_run order) in
    tz_is w32 (ones mask) order (omega (arith, is, run_some order 1 (omega arith))) low
    (ap (λ n. bit_at n order) is ∙ bit_at_run_inside order 1 order (omega arith) (omega arith))
    (λ i h. ap (λ n. bit_at n i) is ∙ bit_at_run_below order 1 i h)

word_at : {them : Company} (key : Key) (words bytes : List ℕ) (v : View) (w : ℕ) → w < 8 * key.children → Agrees key them words bytes v
    → get_or words (bits_place key w) 0 < 2 ^ 64
word_at {them = them} key words bytes v w inside a = omega (arith, a.fit.words_in_range.bits w inside, bit_word_is key words w)

pub word_low : {them : Company} (key : Key) (words bytes : List ℕ) (v : View) (w : ℕ) → ∥ Agrees key them words bytes v ∥₁
    → w < 8 * key.children → get_or words (bits_place key w) 0 < 2 ^ 64
word_low {them = them} key words bytes v w agrees inside = ∥∥₁_elim agrees le_prop (word_at key words bytes v w inside)
