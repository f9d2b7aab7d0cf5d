use Rattle.std.proofs.Common.{◌≡◌, ◌≤◌, ⊎_elim, List, ℕ, arith}
use Rattle.frame_words.specs.declared.fault.Fault.TheVariants as fault
use Rattle.frame_words.specs.declared.geometry.Geometry.{Geometry}
use Rattle.frame_model.specs.declared.block.FrameBlock.{FrameBlock}
use Rattle.frame_table.specs.Openings.{IsLeft}
use Rattle.core_frames.specs.declared.shared.allocator.Allocator.{Allocator}
use Rattle.core_frames.specs.Cores.{memory_of}
use Rattle.core_frames.specs.Left.{IsUnadoptedFor}
use Rattle.core_frames.specs.Ranges.{IsUnopenedFor, MayHoldBack}
use Rattle.core_frames.proofs.laws.wrong_refusals_are_not_told.Goals as goal

-- a block that is left is not refused as one that is not
left : (a : Allocator) (b : FrameBlock) (blocks : List FrameBlock) → IsLeft (memory_of a) blocks b
    → ¬ IsUnadoptedFor a b blocks fault.NotHeld
left a b blocks is why = ⊎_elim (λ h. absurd (not_held h.0)) (λ h. h.2 is) why
  where
    not_held : fault.NotHeld ≡ fault.BadOrder → ⊥
    not_held e = absurd (cc)

lawful : (a : Allocator) (b : FrameBlock) (blocks : List FrameBlock) → b.order ≤ 9
    → ¬ IsUnadoptedFor a b blocks fault.BadOrder
lawful a b blocks low why = ⊎_elim (λ h. absurd (omega (arith, low, h.1))) (λ h. absurd (bad_order h.0)) why
  where
    bad_order : fault.BadOrder ≡ fault.NotHeld → ⊥
    bad_order e = absurd (cc)

bad_range : fault.BadRange ≡ fault.NoMemory → ⊥
bad_range e = absurd (cc)

no_memory : fault.NoMemory ≡ fault.BadRange → ⊥
no_memory e = absurd (cc)

lawful_ranges : (geometry : Geometry) (ranges : List (ℕ × ℕ)) → MayHoldBack geometry ranges
    → ¬ IsUnopenedFor geometry ranges fault.BadRange
lawful_ranges geometry ranges may why = ⊎_elim (λ h. h.1 may) (λ h. absurd (bad_range h.0)) why

unlawful_ranges : (geometry : Geometry) (ranges : List (ℕ × ℕ)) → ¬ MayHoldBack geometry ranges
    → ¬ IsUnopenedFor geometry ranges fault.NoMemory
unlawful_ranges geometry ranges not why = ⊎_elim (λ h. absurd (no_memory h.0)) (λ h. not h.1) why

pub returns : goal.returns
returns c = record {
  left = λ a b blocks. (left a b blocks, lawful a b blocks);
  ranges = λ geometry ranges. (lawful_ranges geometry ranges, unlawful_ranges geometry ranges);
  closing = λ cores seats. (λ all why. absurd (omega (arith, all, why)), λ few why. absurd (omega (arith, few, why)));
  numbers = λ cores k d within other numbered. other (numbered k d within);
}
