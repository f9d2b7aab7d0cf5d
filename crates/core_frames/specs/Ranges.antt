-- The rule for ranges that an opening holds back.
use Rattle.std.specs.Prelude.{◌≡◌, ◌⊎◌, ℕ, ◌+◌, ◌≤◌, List, length}
use Rattle.frame_words.specs.declared.fault.Fault.{Fault}
use Rattle.frame_words.specs.declared.fault.Fault.TheVariants.{BadRange, NoMemory}
use Rattle.frame_words.specs.declared.geometry.Geometry.{Geometry}
use Rattle.frame_model.specs.Key.{most_ranges, AreRanges}

-- there are few enough ranges, none is empty, they ascend and do not overlap, and end inside memory
pub record MayHoldBack (geometry : Geometry) (ranges : List (ℕ × ℕ)) : Type 0 where
  pub few : length ranges ≤ most_ranges
  pub apart : AreRanges 0 geometry.frames ranges

-- the range has a frame, begins at a frame or behind it, and ends at another or before it
pub record MayFollow (from end : ℕ) (range : ℕ × ℕ) : Type 0 where
  pub some : 1 ≤ range.1
  pub behind : from ≤ range.0
  pub inside : range.0 + range.1 ≤ end

-- why an opening with ranges was refused: they may not be held back, or there is not enough memory
abbrev pub IsUnopenedFor : Geometry → List (ℕ × ℕ) → Fault → Type 0
IsUnopenedFor geometry ranges fault =
    ((fault ≡ BadRange) × ¬ MayHoldBack geometry ranges)
    ⊎ ((fault ≡ NoMemory) × MayHoldBack geometry ranges)
