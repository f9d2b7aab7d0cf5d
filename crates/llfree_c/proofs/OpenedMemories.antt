-- Sizes and ranges, as C passes them and as an allocator reads them.
use Rattle.std.proofs.Common.{◌≡◌, ℕ, ◌≤◌, List, length, ap, subst, ◌∙◌}
use Rattle.std.proofs.lemmas.List.{length-map}
use Rattle.frame_words.specs.declared.geometry.Geometry.{Geometry}
use Rattle.frame_model.specs.declared.key.Key.{Key}
use Rattle.frame_model.specs.Key.{most_ranges, AreRanges, sealed_key}
use Rattle.core_frames.specs.Ranges.{MayHoldBack}
use Rattle.llfree_c.specs.Openings.{pair_of, pairs_of, MayLieBack, IsMemoryOf}
use Rattle.llfree_c.specs.declared.ranges.FrameRange.{FrameRange}

-- as many pairs as ranges
pub as_many : (ranges : List FrameRange) (pairs : List (ℕ × ℕ)) → pairs ≡ pairs_of ranges
    → length pairs ≡ length ranges
as_many ranges pairs e = ap (λ (ps : List (ℕ × ℕ)). length ps) e ∙ length-map ranges pair_of

-- ranges that an allocator holds back may lie back
pub lies_back : (g : Geometry) (frames : ℕ) (ranges : List FrameRange) (pairs : List (ℕ × ℕ)) → g.frames ≡ frames
    → pairs ≡ pairs_of ranges → MayHoldBack g pairs → MayLieBack frames ranges
lies_back g frames ranges pairs size e may = record {
  few = subst (λ (n : ℕ). n ≤ most_ranges) (as_many ranges pairs e) may.few;
  apart = subst (λ (n : ℕ). AreRanges 0 n (pairs_of ranges)) size
      (subst (λ (ps : List (ℕ × ℕ)). AreRanges 0 g.frames ps) e may.apart);
}

-- the key of an opening is that of the memory that was asked for
pub memory_of_key : (g : Geometry) (frames : ℕ) (ranges : List FrameRange) (pairs : List (ℕ × ℕ)) (key : Key)
    → g.frames ≡ frames → pairs ≡ pairs_of ranges → MayHoldBack g pairs → key ≡ sealed_key g pairs
    → IsMemoryOf frames ranges key
memory_of_key g frames ranges pairs key size e may is = record {
  size = ap (λ (k : Key). k.frames) is ∙ size;
  held_back = ap (λ (k : Key). k.ranges) is ∙ e;
  sealed = ap (λ (k : Key). k.sealed) is;
  lawful = lies_back g frames ranges pairs size e may;
}
