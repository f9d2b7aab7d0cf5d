-- Where the zones of a memory lie, whose frames are numbers of 32 bits.
use Rattle.std.specs.Prelude.{◌≡◌, ◌⊎◌, ℕ, ◌+◌, ◌-◌, ◌*◌, ◌%◌, ◌^◌, ◌<◌, ◌≤◌, List, length, min, slice_index_or}
use Rattle.frame_slots.specs.Numbers.{child_count_of, most_frames}
use Rattle.frame_words.specs.declared.fault.Fault.{Fault}
use Rattle.frame_words.specs.declared.fault.Fault.TheVariants.{BadGeometry, NoMemory}
use Rattle.frame_zones.specs.Spans.{most_zones}

-- as many frames as 32 bits number
abbrev pub most_numbers : ℕ
most_numbers = 2 ^ 32

-- the first frame of a zone or a range, and how many frames it has
abbrev pub Stretch : Type 0
Stretch = ℕ × ℕ

-- one of them; past the last one, one that is empty
abbrev pub stretch_at : List Stretch → ℕ → Stretch
stretch_at stretches k = slice_index_or stretches k (0, 0)

-- the frame past the last one
abbrev pub end_of : Stretch → ℕ
end_of s = s.0 + s.1

-- the frame lies there
abbrev pub LiesInStretch : ℕ → Stretch → Type 0
LiesInStretch x s = (s.0 ≤ x) × (x < end_of s)

-- the frame lies in one of them
abbrev pub LiesInOne : ℕ → List Stretch → Type 0
LiesInOne x stretches = (k : ℕ) × (k < length stretches) × LiesInStretch x (stretch_at stretches k)

-- there may be such a zone: it begins at a whole child, has a frame, and no more than an allocator
-- has, and its frames are numbers of 32 bits
pub record MayBeZone (zone : Stretch) : Type 0 where
  pub aligned : zone.0 % 512 ≡ 0
  pub some : 1 ≤ zone.1
  pub few : zone.1 ≤ most_frames
  pub inside : end_of zone ≤ most_numbers

-- the frame past the last child of a zone
abbrev pub end_of_children : Stretch → ℕ
end_of_children zone = zone.0 + 512 * child_count_of zone.1

-- the last child of a zone ends at or below the first frame of another
abbrev pub EndsBelow : Stretch → Stretch → Type 0
EndsBelow zone later = end_of_children zone ≤ later.0

-- there are zones, and few enough, there may be each of them, and each ends below each later one
pub record MayBeLaidOut (zones : List Stretch) : Type 0 where
  pub some : 1 ≤ length zones
  pub few : length zones ≤ most_zones
  pub each : (z : ℕ) → z < length zones → MayBeZone (stretch_at zones z)
  pub apart : (y z : ℕ) → y < z → z < length zones → EndsBelow (stretch_at zones y) (stretch_at zones z)

-- the zones of so many frames without a hole: each has as many frames as an allocator may have, but
-- the last one, which has those that are left
pub record AreEven (frames : ℕ) (zones : List Stretch) : Type 0 where
  pub firsts : (z : ℕ) → z < length zones → (stretch_at zones z).0 ≡ most_frames * z
  pub sizes : (z : ℕ) → z < length zones
      → (stretch_at zones z).1 ≡ min most_frames (frames - most_frames * z)
  pub last : most_frames * (length zones - 1) < frames
  pub all : frames ≤ most_frames * length zones

-- zones have so many frames
pub record AreZoneFrames (frames : ℕ) : Type 0 where
  pub some : 1 ≤ frames
  pub few : frames ≤ most_frames * most_zones

-- why there are no zones of so many frames: there are none of so few or so many, or memory was wanting
abbrev pub AreNoZonesFor : ℕ → Fault → Type 0
AreNoZonesFor frames fault =
    ((fault ≡ BadGeometry) × ¬ AreZoneFrames frames) ⊎ ((fault ≡ NoMemory) × AreZoneFrames frames)

-- each of them ends at or below each later one
abbrev pub LieInOrder : List Stretch → Type 0
LieInOrder stretches = (j k : ℕ) → j < k → k < length stretches
    → end_of (stretch_at stretches j) ≤ (stretch_at stretches k).0

-- just so many of them, the first ones, end at or below the frame
pub record EndAtOrBelow (frame : ℕ) (stretches : List Stretch) (n : ℕ) : Type 0 where
  pub count : n ≤ length stretches
  pub below : (k : ℕ) → k < n → end_of (stretch_at stretches k) ≤ frame
  pub behind : (k : ℕ) → n ≤ k → k < length stretches → frame < end_of (stretch_at stretches k)
