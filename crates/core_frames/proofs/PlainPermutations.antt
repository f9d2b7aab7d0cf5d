-- Lists of blocks that have each block equally often are the same in another order.
use Rattle.std.proofs.Common.{◌≡◌, ◌≢◌, ⊎_elim, ℕ, suc, ◌+◌, ◌<◌, List, [], ◌∷◌, refl, ap, sym, ◌∙◌, arith}
use Rattle.std.specs.Prelude.{nat_eq, ◌&&◌, if◌then◌else◌}
use Rattle.std.specs.List.{sum_by, remove, Contains}
use Rattle.std.specs.List.Sorted.{IsPermutation}
use Rattle.std.proofs.lemmas.Bool.{cases_eq}
use Rattle.std.proofs.lemmas.Bool.Decides.{nat_tests}
use Rattle.std.proofs.lemmas.List.Sums.{sum_by-cons}
use Rattle.std.proofs.lemmas.List.Sorted.{IsPermutation-refl, IsPermutation-sym, IsPermutation-trans, IsPermutation-cons}
use Rattle.std.proofs.lemmas.List.Sorted.{IsPermutation-remove, sum_by-IsPermutation}
use Rattle.frame_model.specs.declared.block.FrameBlock.{FrameBlock}
use Rattle.frame_model.specs.Block.{block}

-- 1 where the blocks are the same
unfoldable pub same_block : FrameBlock → FrameBlock → ℕ
same_block b c = if nat_eq b.frame c.frame && nat_eq b.order c.order then 1 else 0

same_itself : (b : FrameBlock) → same_block b b ≡ 1
unfolding same_block
same_itself b = grind (arith, nat_tests)

same_frame : (b c : FrameBlock) → 0 < same_block b c → b.frame ≡ c.frame
unfolding same_block
same_frame b c h = grind (arith, nat_tests)

same_order : (b c : FrameBlock) → 0 < same_block b c → b.order ≡ c.order
unfolding same_block
same_order b c h = grind (arith, nat_tests)

same_is : (b c : FrameBlock) → 0 < same_block b c → b ≡ c
same_is b c h = ap (λ (x : ℕ). block x b.order) (same_frame b c h) ∙ ap (block c.frame) (same_order b c h)

-- how often a block stands in a list
times : FrameBlock → List FrameBlock → ℕ
times b bs = sum_by (same_block b) bs

times_cons : (b c : FrameBlock) (bs : List FrameBlock) → times b (c ∷ bs) ≡ same_block b c + times b bs
unfolding times
times_cons b c bs = sum_by-cons (same_block b) c bs

times_none : (b : FrameBlock) → times b [] ≡ 0
unfolding times
times_none b = refl

times_permuted : (b : FrameBlock) (bs cs : List FrameBlock) → IsPermutation bs cs → times b cs ≡ times b bs
unfolding times
times_permuted b bs cs p = sum_by-IsPermutation (same_block b) bs cs p

-- a block that stands in a list has a place there
place_of : (b : FrameBlock) (bs : List FrameBlock) → 0 < times b bs → Contains bs b
place_of b [] h = absurd (omega (arith, times_none b))
place_of b (c ∷ bs) h =
    ⊎_elim
    (λ (none : same_block b c ≡ 0). let t = place_of b bs (omega (arith, times_cons b c bs)) in (suc t.0, omega (arith, t.1), t.2))
    (λ (some : same_block b c ≢ 0). (0, omega arith, sym (same_is b c (omega arith))))
    (cases_eq (same_block b c) 0)

-- lists that have each block equally often
from_times : (bs cs : List FrameBlock) → ((b : FrameBlock) → times b bs ≡ times b cs) → IsPermutation bs cs
from_times [] [] same = IsPermutation-refl []
from_times [] (c ∷ cs) same = absurd (omega (arith, same c, times_none c, times_cons c c cs, same_itself c))
from_times (b ∷ bs) cs same =
    let at = place_of b cs (omega (arith, same b, times_cons b b bs, same_itself b)) in
    let out : IsPermutation cs (b ∷ remove cs at.0) = IsPermutation-remove cs at.0 b at.1 (sym at.2) in
    let left : IsPermutation bs (remove cs at.0) =
    from_times bs (remove cs at.0) (λ d. omega (
      arith,
      same d,
      times_cons d b bs,
      times_cons d b (remove cs at.0),
      times_permuted d cs (b ∷ remove cs at.0)
          out,
    )) in
    IsPermutation-trans (b ∷ bs) (b ∷ remove cs at.0) cs (IsPermutation-cons b bs (remove cs at.0) left)
    (IsPermutation-sym cs (b ∷ remove cs at.0) out)

-- what stands behind equal heads
pub uncons : (b : FrameBlock) (bs cs : List FrameBlock) → IsPermutation (b ∷ bs) (b ∷ cs) → IsPermutation bs cs
uncons b bs cs p = from_times bs cs (λ d. omega (arith, times_cons d b bs, times_cons d b cs, times_permuted d (b ∷ bs) (b ∷ cs) p))
