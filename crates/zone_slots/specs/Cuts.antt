-- Ranges that an opening holds back, cut at the zones.
use Rattle.std.specs.Prelude.{◌≡◌, ◌↔◌, ℕ, ◌+◌, ◌<◌, ◌≤◌, List, length, min, max}
use Rattle.frame_model.specs.Key.{most_ranges}
use Rattle.zone_slots.specs.Layouts.{Stretch, stretch_at, end_of, LiesInOne, LieInOrder}

-- none is empty, and each ends at or below each later one
pub record AreRangesApart (ranges : List Stretch) : Type 0 where
  pub some : (k : ℕ) → k < length ranges → 1 ≤ (stretch_at ranges k).1
  pub ascend : LieInOrder ranges

-- each frame of the ranges lies in a zone
abbrev pub AreInside : (zones ranges : List Stretch) → Type 0
AreInside zones ranges = (x : ℕ) → LiesInOne x ranges → LiesInOne x zones

-- the zones may hold these ranges back: there are few enough of them, none is empty, they ascend and do
-- not overlap, and each of their frames lies in a zone
pub record MayBeHeldBack (zones ranges : List Stretch) : Type 0 where
  pub few : length ranges ≤ most_ranges
  pub apart : AreRangesApart ranges
  pub inside : AreInside zones ranges

-- some frame from one to before another lies in a range
abbrev pub Meet : (from end : ℕ) → List Stretch → Type 0
Meet from end ranges = (x : ℕ) × (from ≤ x) × (x < end) × LiesInOne x ranges

-- the piece, counted from the zone's first frame, is what a range has in the zone
pub record IsPieceOf (zone range piece : Stretch) : Type 0 where
  pub some : 1 ≤ piece.1
  pub begins : zone.0 + piece.0 ≡ max zone.0 range.0
  pub ends : zone.0 + end_of piece ≡ min (end_of zone) (end_of range)

-- the pieces, counted from the zone's first frame, have just the frames of the zone that the ranges have
abbrev pub AreIn : Stretch → (ranges pieces : List Stretch) → Type 0
AreIn zone ranges pieces = (x : ℕ) → x < zone.1 → (LiesInOne x pieces ↔ LiesInOne (zone.0 + x) ranges)
