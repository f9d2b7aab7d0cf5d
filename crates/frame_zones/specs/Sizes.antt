-- Where the allocators of a memory lie.
use Rattle.std.specs.Prelude.{◌≡◌, ℕ, ◌+◌, ◌*◌, ◌%◌, ◌<◌, ◌≤◌, List, length, slice_index_or}
use Rattle.core_frames.specs.declared.shared.allocator.Allocator.{Allocator}
use Rattle.core_frames.specs.Cores.{memory_of}
use Rattle.frame_zones.specs.Spans.{most_zones, most_zone_frames}

-- the frame past the last child of an allocator whose memory begins at a frame
abbrev pub end_from : ℕ → Allocator → ℕ
end_from first a = first + 512 * (memory_of a).children

-- each has so many cores
abbrev pub HaveCores : ℕ → List Allocator → Type 0
HaveCores n zones = (z : ℕ) (a : Allocator) → z < length zones
    → (memory_of (slice_index_or zones z a)).cores ≡ n

-- so many frames are those of each one's memory
pub record AreSized (zones : List Allocator) (frames : List ℕ) : Type 0 where
  pub count : length frames ≡ length zones
  pub each : (z : ℕ) (a : Allocator) → z < length zones
      → slice_index_or frames z 0 ≡ (memory_of (slice_index_or zones z a)).frames

-- each zone has a first frame, a multiple of 512, ends within all frames, and lies below each later one
pub record AreLaidOut (zones : List Allocator) (firsts : List ℕ) : Type 0 where
  pub few : length zones ≤ most_zones
  pub count : length firsts ≡ length zones
  pub aligned : (i : ℕ) → i < length zones → slice_index_or firsts i 0 % 512 ≡ 0
  pub inside : (i : ℕ) (a : Allocator) → i < length zones
      → end_from (slice_index_or firsts i 0) (slice_index_or zones i a) ≤ most_zone_frames
  pub ascend : (i j : ℕ) (a : Allocator) → i < j → j < length zones
      → end_from (slice_index_or firsts i 0) (slice_index_or zones i a) ≤ slice_index_or firsts j 0
