-- Blocks of a list that share a frame.
use Rattle.std.proofs.Common.{◌≡◌, ◌⊎◌, inl, inr, ⊎_elim, ℕ, zero, suc, ◌+◌, ◌^◌, ◌<◌, ◌≤◌, List, [], ◌∷◌, length, get_or, refl, sym, subst, ◌-◌, arith}
use Rattle.std.specs.List.{AllAdjacentBelow}
use Rattle.std.proofs.lemmas.Bool.{cases_lt}
use Rattle.std.proofs.lemmas.Bool.Decides.{nat_tests}
use Rattle.std.proofs.lemmas.List.{get_or_default}
use Rattle.std.proofs.lemmas.List.Sums.{sum_by-cons}
use Rattle.std.proofs.lemmas.Nat.{pow_pos}
use Rattle.frame_model.specs.declared.block.FrameBlock.{FrameBlock}
use Rattle.frame_model.specs.Block.{covers}
use Rattle.frame_model.specs.Holding.{holders}
use Rattle.frame_slots.specs.Claims.{Ascend, ShareNoFrame}

-- a block covers the frames from its first one on
pub covered : (b : FrameBlock) (x : ℕ) → b.frame ≤ x → x < b.frame + 2 ^ b.order → covers b x ≡ 1
unfolding covers
covered b x low high = grind (arith, nat_tests)

-- and none before it or behind it
pub uncovered : (b : FrameBlock) (x : ℕ) → (x < b.frame) ⊎ (b.frame + 2 ^ b.order ≤ x) → covers b x ≡ 0
unfolding covers
uncovered b x (inl low) = grind (arith, nat_tests)
uncovered b x (inr high) = grind (arith, nat_tests)

pub covers_once : (b : FrameBlock) (x : ℕ) → covers b x ≤ 1
covers_once b x = ⊎_elim
    (λ (low : x < b.frame). omega (arith, uncovered b x (inl low)))
    (λ from. ⊎_elim
    (λ (high : x < b.frame + 2 ^ b.order). omega (arith, covered b x from high))
    (λ behind. omega (arith, uncovered b x (inr behind)))
    (cases_lt x (b.frame + 2 ^ b.order)))
    (cases_lt x b.frame)

pub holders_cons : (x : ℕ) (b : FrameBlock) (bs : List FrameBlock) → holders x (b ∷ bs) ≡ covers b x + holders x bs
unfolding holders
holders_cons x b bs = sum_by-cons (λ c. covers c x) b bs

pub holders_none : (x : ℕ) → holders x [] ≡ 0
unfolding holders
holders_none x = refl

-- a block of the list holds what it covers
pub holds_one : (x : ℕ) (bs : List FrameBlock) (k : ℕ) (d : FrameBlock) → k < length bs → covers (get_or bs k d) x ≡ 1
    → 1 ≤ holders x bs
holds_one x [] k d less e = absurd (omega (arith, less))
holds_one x (b ∷ bs) zero d less e = omega (arith, e, holders_cons x b bs)
holds_one x (b ∷ bs) (suc k) d less e =
    let left : 1 ≤ holders x bs = holds_one x bs k d (omega (arith, less)) e in
    omega (arith, left, holders_cons x b bs)

-- so do two of them
pub holds_two : (x : ℕ) (bs : List FrameBlock) (i j : ℕ) (d : FrameBlock) → i < j → j < length bs
    → covers (get_or bs i d) x ≡ 1 → covers (get_or bs j d) x ≡ 1 → 2 ≤ holders x bs
holds_two x [] i j d before less e f = absurd (omega (arith, less))
holds_two x (b ∷ bs) i zero d before less e f = absurd (omega (arith, before))
holds_two x (b ∷ bs) zero (suc j) d before less e f =
    let left : 1 ≤ holders x bs = holds_one x bs j d (omega (arith, less)) f in
    omega (arith, e, left, holders_cons x b bs)
holds_two x (b ∷ bs) (suc i) (suc j) d before less e f =
    let left : 2 ≤ holders x bs = holds_two x bs i j d (omega (arith, before)) (omega (arith, less)) e f in
    omega (arith, left, holders_cons x b bs)

-- where a block begins inside the one before it, the blocks are not apart
pub not_apart : (bs : List FrameBlock) (i : ℕ) (d : FrameBlock) → 1 ≤ i → i < length bs
    → (get_or bs (i - 1) d).frame ≤ (get_or bs i d).frame
    × ((get_or bs i d).frame < (get_or bs (i - 1) d).frame + 2 ^ (get_or bs (i - 1) d).order)
    → ¬ ShareNoFrame bs
not_apart bs i d some less inside apart =
    let b = get_or bs i d in
    let own : covers b b.frame ≡ 1 = covered b b.frame (omega arith) (omega (arith, pow_pos b.order)) in
    let other = covered (get_or bs (i - 1) d) b.frame inside.0 inside.1 in
    let two : 2 ≤ holders b.frame bs = holds_two b.frame bs (i - 1) i d (omega arith) less other own in
    omega (arith, two, apart b.frame)

-- two blocks that share no frame do not begin at one
pub begin_apart : (bs : List FrameBlock) (i j : ℕ) (d : FrameBlock) → ShareNoFrame bs → i < j → j < length bs
    → (get_or bs i d).frame ≡ (get_or bs j d).frame → ⊥
begin_apart bs i j d apart before less same =
    let b = get_or bs i d in
    let c = get_or bs j d in
    let own : covers b b.frame ≡ 1 = covered b b.frame (omega arith) (omega (arith, pow_pos b.order)) in
    let other : covers c b.frame ≡ 1 = covered c b.frame (omega (arith, same)) (omega (arith, same, pow_pos c.order)) in
    let two : 2 ≤ holders b.frame bs = holds_two b.frame bs i j d before less own other in
    omega (arith, two, apart b.frame)

-- the second block does not begin inside the first
abbrev pub BeginsOutside : FrameBlock → FrameBlock → Type 0
BeginsOutside b c = b.frame ≤ c.frame → b.frame + 2 ^ b.order ≤ c.frame

-- a test of two neighbours says so of them, however they are read
pub outside_at : (bs : List FrameBlock) (i : ℕ) (e d : FrameBlock) → 1 ≤ i → i < length bs
    → ((get_or bs (i - 1) e).frame ≤ (get_or bs i e).frame
    × ((get_or bs i e).frame < (get_or bs (i - 1) e).frame + 2 ^ (get_or bs (i - 1) e).order) → ⊥)
    → BeginsOutside (get_or bs (i - 1) d) (get_or bs i d)
outside_at bs i e d some less outer =
    let b : FrameBlock = get_or bs (i - 1) e in
    let c : FrameBlock = get_or bs i e in
    let before : get_or bs (i - 1) d ≡ b = get_or_default bs (i - 1) d e (omega arith) in
    let here : get_or bs i d ≡ c = get_or_default bs i d e less in
    let at : BeginsOutside b c = λ low. ⊎_elim
    (λ (inside : c.frame < b.frame + 2 ^ b.order). absurd (outer (low, inside)))
    (λ outside. outside)
    (cases_lt c.frame (b.frame + 2 ^ b.order)) in
    subst (λ (f : FrameBlock). BeginsOutside f (get_or bs i d)) (sym before)
    (subst (λ (f : FrameBlock). BeginsOutside b f) (sym here) at)

-- each block but the first begins behind the one before it
abbrev pub AreChained : List FrameBlock → Type 0
AreChained bs = (k : ℕ) (d : FrameBlock) → suc k < length bs
    → (get_or bs k d).frame + 2 ^ (get_or bs k d).order ≤ (get_or bs (suc k) d).frame

-- of blocks in a chain none holds a frame before the first
none_before : (x : ℕ) (bs : List FrameBlock) (d : FrameBlock) → AreChained bs → (0 < length bs → x < (get_or bs 0 d).frame)
    → holders x bs ≡ 0
none_before x [] d chain before = holders_none x
none_before x (b ∷ bs) d chain before =
    let first : x < b.frame = before (omega arith) in
    let left : holders x bs ≡ 0 = none_before x bs d (λ k e less. chain (suc k) e (omega (arith, less)))
    (λ some. let next : b.frame + 2 ^ b.order ≤ (get_or bs 0 d).frame = chain 0 d (omega (arith, some)) in omega (arith, next, first)) in
    omega (arith, left, holders_cons x b bs, uncovered b x (inl first))

pub chained_apart : (bs : List FrameBlock) (d : FrameBlock) → AreChained bs → ShareNoFrame bs
chained_apart [] d chain x = omega (arith, holders_none x)
chained_apart (b ∷ bs) d chain x =
    let tail : AreChained bs = λ k e less. chain (suc k) e (omega (arith, less)) in
    ⊎_elim
    (λ (low : x < b.frame + 2 ^ b.order).
    let none : holders x bs ≡ 0 = none_before x bs d tail
    (λ some. let next : b.frame + 2 ^ b.order ≤ (get_or bs 0 d).frame = chain 0 d (omega (arith, some)) in omega (arith, next, low)) in
    omega (arith, none, holders_cons x b bs, covers_once b x))
    (λ behind. omega (arith, chained_apart bs d tail x, holders_cons x b bs, uncovered b x (inr behind)))
    (cases_lt x (b.frame + 2 ^ b.order))

-- of blocks that ascend, where none begins inside the one before it, none share a frame
pub apart_in_order : (bs : List FrameBlock) (i : ℕ) (d : FrameBlock) → Ascend bs → AllAdjacentBelow BeginsOutside bs i
    → length bs ≤ i → ShareNoFrame bs
apart_in_order bs i d up outside all = chained_apart bs d (λ k e less.
    let next : k + 1 ≡ suc k = omega arith in
    subst (λ (n : ℕ). (get_or bs k e).frame + 2 ^ (get_or bs k e).order ≤ (get_or bs n e).frame) next
    (outside k e (omega (arith, less)) (up k (k + 1) e (omega arith) (omega (arith, less)))))
