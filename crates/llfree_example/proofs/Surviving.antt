-- A block that is left is never refused to whoever adopts it.
use Rattle.std.proofs.Common.{◌≡◌, ⊎_elim, List, ◌∷◌, subst, arith}
use Rattle.std.specs.List.{All}
use Rattle.frame_words.specs.declared.fault.Fault.{Fault}
use Rattle.frame_model.specs.declared.block.FrameBlock.{FrameBlock}
use Rattle.frame_model.specs.declared.key.Key.{Key}
use Rattle.frame_table.specs.Openings.{IsLeft}
use Rattle.core_frames.specs.Cores.{memory_of}
use Rattle.core_frames.specs.Left.{IsUnadoptedFor}
use Rattle.core_frames.specs.declared.shared.allocator.Allocator.{Allocator}

-- the first of the blocks that a core keeps is left where all are
pub first_left : (key : Key) (left kept old : List FrameBlock) (b : FrameBlock) → kept ≡ b ∷ old
    → All (IsLeft key left) kept → IsLeft key left b
first_left key left kept old b is all = subst (λ (l : List FrameBlock). All (IsLeft key left) l) is all 0 b (omega arith)

pub never_refused : (a : Allocator) (left : List FrameBlock) (b : FrameBlock) (fault : Fault) → IsLeft (memory_of a) left b
    → IsUnadoptedFor a b left fault → ⊥
never_refused a left b fault one why =
    ⊎_elim (λ high. omega (arith, high.1, one.is_block.order)) (λ missing. missing.2 one) why
