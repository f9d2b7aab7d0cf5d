-- The memories that an opening is asked for, and why there are none.
use Rattle.std.specs.Prelude.{◌≡◌, ◌⊎◌, ℕ, ◌<◌, ◌≤◌, List, length, map, true}
use Rattle.frame_words.specs.Geometry.{most_cores}
use Rattle.frame_model.specs.declared.key.Key.{Key}
use Rattle.frame_model.specs.Key.{most_ranges, AreRanges}
use Rattle.frame_slots.specs.Numbers.{most_frames}
use Rattle.frame_zones.specs.Spans.{most_zones}
use Rattle.zone_slots.specs.Cuts.{MayBeHeldBack}
use Rattle.zone_slots.specs.Layouts.{Stretch, AreEven, AreZoneFrames}
use Rattle.zone_slots.specs.ZoneSpans.{MayBeUsed}
use Rattle.llfree_c.specs.Status.{no_memory, bad_geometry, bad_range}
use Rattle.llfree_c.specs.declared.ranges.FrameRange.{FrameRange}

-- there are memories of so many frames, for so many cores
pub record AreMemorySizes (frames cores : ℕ) : Type 0 where
  pub some_frames : 1 ≤ frames
  pub few_frames : frames ≤ most_frames
  pub some_cores : 1 ≤ cores
  pub few_cores : cores ≤ most_cores

-- the first frame of a range, and how many frames it has
abbrev pub pair_of : FrameRange → ℕ × ℕ
pair_of range = (range.first, range.frames)

-- the same of each of the ranges
abbrev pub pairs_of : List FrameRange → List (ℕ × ℕ)
pairs_of ranges = map pair_of ranges

-- a memory of so many frames may hold these ranges back: there are few enough of them, none is empty,
-- they ascend and do not meet, and end inside memory
pub record MayLieBack (frames : ℕ) (ranges : List FrameRange) : Type 0 where
  pub few : length ranges ≤ most_ranges
  pub apart : AreRanges 0 frames (pairs_of ranges)

-- there is no memory of these sizes
abbrev pub HasNoSizes : (frames cores status : ℕ) → Type 0
HasNoSizes frames cores status = (status ≡ bad_geometry) × ¬ AreMemorySizes frames cores

-- the ranges may not be held back
abbrev pub RangesDoNotFit : ℕ → List FrameRange → ℕ → Type 0
RangesDoNotFit frames ranges status = (status ≡ bad_range) × ¬ MayLieBack frames ranges

-- why ranges were not read: there are too many, or memory was wanting
abbrev pub HasNoPairs : List FrameRange → ℕ → Type 0
HasNoPairs ranges status =
    ((status ≡ bad_range) × (most_ranges < length ranges)) ⊎ (status ≡ no_memory)

-- why no memory was opened: there is none of these sizes, the ranges may not be held back, or there is one
-- of these sizes and memory was wanting
abbrev pub IsUnopened : (frames cores : ℕ) → List FrameRange → ℕ → Type 0
IsUnopened frames cores ranges status =
    HasNoSizes frames cores status ⊎ RangesDoNotFit frames ranges status
    ⊎ ((status ≡ no_memory) × AreMemorySizes frames cores)

-- the memory has so many frames, and its opening held these ranges back, which may be held back, and
-- nothing else that lies inside
pub record IsMemoryOf (frames : ℕ) (ranges : List FrameRange) (key : Key) : Type 0 where
  pub size : key.frames ≡ frames
  pub held_back : key.ranges ≡ pairs_of ranges
  pub sealed : key.sealed ≡ true
  pub lawful : MayLieBack frames ranges

-- there are zones of so many frames without a hole, for so many cores
pub record AreZoneSizes (frames cores : ℕ) : Type 0 where
  pub zone_frames : AreZoneFrames frames
  pub some_cores : 1 ≤ cores
  pub few_cores : cores ≤ most_cores

-- there are none
abbrev pub HasNoZones : (frames cores status : ℕ) → Type 0
HasNoZones frames cores status = (status ≡ bad_geometry) × ¬ AreZoneSizes frames cores

-- the zones of so many frames without a hole may not hold the ranges back
abbrev pub EvenZonesDoNotHold : ℕ → List Stretch → ℕ → Type 0
EvenZonesDoNotHold frames ranges status = (status ≡ bad_range)
    × ((zones : List Stretch) → AreEven frames zones → ¬ MayBeHeldBack zones ranges)

-- why zones of so many frames were not opened: there are none for so many cores, they may not hold the ranges
-- back, or there are such zones and memory was wanting
abbrev pub IsUnopenedEven : (frames cores : ℕ) → List Stretch → ℕ → Type 0
IsUnopenedEven frames cores ranges status =
    HasNoZones frames cores status ⊎ EvenZonesDoNotHold frames ranges status
    ⊎ ((status ≡ no_memory) × AreZoneSizes frames cores)

-- zones may not lie so, or not for so many cores
abbrev pub ZonesDoNotFit : ℕ → List Stretch → ℕ → Type 0
ZonesDoNotFit cores zones status = (status ≡ bad_geometry) × ¬ MayBeUsed cores zones

-- the zones may not hold the ranges back
abbrev pub ZonesDoNotHold : (zones ranges : List Stretch) → ℕ → Type 0
ZonesDoNotHold zones ranges status = (status ≡ bad_range) × ¬ MayBeHeldBack zones ranges

-- there may be so many zones for so many cores
pub record AreFewEnough (cores : ℕ) (zones : List Stretch) : Type 0 where
  pub some_cores : 1 ≤ cores
  pub few_cores : cores ≤ most_cores
  pub few_zones : length zones ≤ most_zones

-- why these zones were not opened: they may not lie so for so many cores, they may not hold the ranges back, or
-- memory was wanting for so many
abbrev pub IsUnopenedIn : ℕ → (zones ranges : List Stretch) → ℕ → Type 0
IsUnopenedIn cores zones ranges status =
    ZonesDoNotFit cores zones status ⊎ ZonesDoNotHold zones ranges status
    ⊎ ((status ≡ no_memory) × AreFewEnough cores zones)

-- why these zones were not opened once they were read: the same, and memory was wanting only where they may lie so
-- and may hold the ranges back
abbrev pub IsUnopenedOnceRead : ℕ → (zones ranges : List Stretch) → ℕ → Type 0
IsUnopenedOnceRead cores zones ranges status =
    ZonesDoNotFit cores zones status ⊎ ZonesDoNotHold zones ranges status
    ⊎ ((status ≡ no_memory) × MayBeUsed cores zones × MayBeHeldBack zones ranges)
