use Rattle.std.proofs.Common.{◌≡◌, ◌≤◌, ◌+◌, ◌∷◌, ◌∙◌, ℕ, List, true, zero, refl, sym, ap, arith, ℤ, pos, ◌+ℤ◌, ◌-ℤ◌}
use Rattle.std.proofs.lemmas.Bool.Decides.{nat_tests}
use Rattle.std.proofs.lemmas.Int.{ints}
use Rattle.std.proofs.lemmas.List.Sums.{sum_by-cons}
use Rattle.frame_model.specs.Block.{block as block_at, covers}
use Rattle.frame_model.specs.Holding.{holders}
use Rattle.frame_model.specs.Without.{is_same, less_one}
use Rattle.frame_model.proofs.Without.{less_here}
use Rattle.frame_model.specs.declared.block.FrameBlock.{FrameBlock}
use Rattle.frame_model.specs.declared.view.View.{View}
use Rattle.frame_table.specs.Keeping.{HasKept, HasRecalled}
use Rattle.frame_table.specs.Seats.{block_in}
use Rattle.core_frames.specs.Cores.{kept_by, view_in}
use Rattle.core_frames.specs.Uses.{IsSameAfter}
use Rattle.core_frames.proofs.shared.allocator.Allocator.tell_apart.Goals as goal
use Rattle.core_frames.proofs.shared.allocator.Allocator.tell_apart.Goals.{After-recall-second}

itself : (b : FrameBlock) → is_same b b ≡ true
unfolding is_same
itself b = grind (arith, nat_tests)

-- where a list begins with the block, that leaves the rest
leaves : (b d : FrameBlock) (blocks : List FrameBlock) → d ≡ b → less_one d (b ∷ blocks) ≡ blocks
leaves b d blocks e = less_here d b blocks (ap (λ (z : FrameBlock). is_same z b) e ∙ itself b)

-- two blocks at the head of a holding share no frame
apart_at_head : (b d : FrameBlock) (blocks : List FrameBlock) (x : ℕ) → holders x (d ∷ b ∷ blocks) ≤ 1
    → covers b x + covers d x ≤ 1
unfolding holders
apart_at_head b d blocks x h =
    omega (arith, h, sum_by-cons (λ (k : FrameBlock). covers k x) d (b ∷ blocks), sum_by-cons (λ (k : FrameBlock). covers k x) b blocks)

-- what is lent less and less, and then more and more, is as before
lent_again : (z : ℤ) → z -ℤ pos 1 -ℤ pos 1 +ℤ pos 1 +ℤ pos 1 ≡ z
lent_again z = omega (arith, ints)

five : (n : ℕ) → n + 1 + 1 + 1 + 1 + 1 ≡ n + 5
five n = omega arith

-- two blocks that were kept, and recalled after one look
as_before : (b d x y : FrameBlock) (v v1 v2 v3 v4 v5 : View) → x ≡ b → y ≡ d → HasKept b v v1
    → HasKept d v1 v2 → IsSameAfter 1 v2 v3 → HasRecalled y v3 v4 → HasRecalled x v4 v5
    → IsSameAfter 5 v v5
as_before b d x y v v1 v2 v3 v4 v5 first second kept also looked less back =
    rw (back, less, looked, also, kept, leaves d y (b ∷ v.kept) second, leaves b x v.kept first, lent_again v.lent, five v.moves) refl

-- the second and the first block stand before what was kept
both : (c : After-recall-second) → kept_by c.look.new.core ≡ block_in c.args.second ∷ block_in c.args.first ∷ kept_by c.args.core.now
both c =
    c.look.ensures.kept ∙ ap (λ (v : View). v.kept) c.keep-other_frame.ensures.keeps
    ∙ ap (λ (k : List FrameBlock). block_in c.args.second ∷ k) (ap (λ (v : View). v.kept) c.keep-frame.ensures.keeps)

-- once the second is recalled, the first one stands before what was kept
one : (c : After-recall-second) → kept_by c.recall-second.new.core ≡ block_in c.args.first ∷ kept_by c.args.core.now
one c =
    ap (λ (v : View). v.kept) c.recall-second.ensures.recalls
    ∙ ap (less_one (block_at c.keep-other_frame.result.0 c.keep-other_frame.result.1)) (both c)
    ∙ leaves (block_in c.args.second) _ _ c.keep-other_frame.ensures.answer

pub recall-requires-clause-kept : goal.recall-requires-clause-kept
recall-requires-clause-kept c =
    rw (one (goal.at.recall-requires-clause-kept c).After-recall-second)
    (zero, omega arith, sym c.keep-frame.ensures.answer)

pub returns-clause-view : goal.returns-clause-view
returns-clause-view c =
    as_before (block_in c.args.first) (block_in c.args.second)
    (block_at c.keep-frame.result.0 c.keep-frame.result.1) (block_at c.keep-other_frame.result.0 c.keep-other_frame.result.1)
    (view_in c.args.core.now) (view_in c.keep-frame.new.core) (view_in c.keep-other_frame.new.core)
    (view_in c.look.new.core) (view_in c.recall-second.new.core) (view_in c.recall.new.core)
    c.keep-frame.ensures.answer c.keep-other_frame.ensures.answer
    c.keep-frame.ensures.keeps c.keep-other_frame.ensures.keeps c.look.ensures.view
    c.recall-second.ensures.recalls c.recall.ensures.recalls

pub returns-clause-apart : goal.returns-clause-apart
returns-clause-apart c = λ x. apart_at_head (block_in c.args.first) (block_in c.args.second) (kept_by c.args.core.now) x
    (rw (both (goal.at.returns-clause-apart c).After-recall-second) at (c.look.ensures.apart.disjoint x))
