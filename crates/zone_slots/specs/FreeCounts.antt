-- How much is free, in all zones and in one, by what a core reads.
use Rattle.std.specs.Prelude.{◌≡◌, ℕ, ◌*◌, ◌<◌, ◌≤◌}
use Rattle.frame_words.specs.Geometry.{child_frames}
use Rattle.frame_zones.specs.FreeCounts.{free_frames_in, free_huge_in, HasReadEntries, IsCountAmong, frames_among}
use Rattle.frame_zones.specs.FreeCounts.{ReadsIn, IsCountIn, IsFewIn}
use Rattle.frame_zones.specs.Zones.{zone_count, InEach}
use Rattle.frame_zones.specs.declared.zones.Zones.{Zones}
use Rattle.frame_zones.specs.declared.zones.ZoneCore.{ZoneCore}
use Rattle.zone_slots.specs.Calls.{zones_of, CountsNone, last_laid}
use Rattle.zone_slots.specs.FrameCalls.{LeavesRest}
use Rattle.zone_slots.specs.declared.core_state.CoreState.{CoreState}

-- so many frames are free in all zones together, by what was last read of the entry of each child, and
-- never more than there are
pub record CountsFramesIn (zs : Zones) (n : ℕ) (c d : ZoneCore) : Type 0 where
  pub looked : InEach zs HasReadEntries c d
  pub sum : IsCountAmong free_frames_in zs d n
  pub few : n ≤ frames_among zs

-- so many children are free as a whole in all zones together, by what was last read of their entries,
-- and never more than there are
pub record CountsHugeIn (zs : Zones) (n : ℕ) (c d : ZoneCore) : Type 0 where
  pub looked : InEach zs HasReadEntries c d
  pub sum : IsCountAmong free_huge_in zs d n
  pub few : child_frames * n ≤ frames_among zs

-- so many frames are free in this zone, by what was last read of the entry of each of its children, and never more
-- than it has
pub record CountsFramesAt (zs : Zones) (z n : ℕ) (c d : ZoneCore) : Type 0 where
  pub looked : ReadsIn zs z c d
  pub count : IsCountIn free_frames_in zs z d n
  pub few : IsFewIn zs z n

-- so many children of this zone are free as a whole, by what was last read of their entries, and never more than
-- it has
pub record CountsHugeAt (zs : Zones) (z n : ℕ) (c d : ZoneCore) : Type 0 where
  pub looked : ReadsIn zs z c d
  pub count : IsCountIn free_huge_in zs z d n
  pub few : IsFewIn zs z (child_frames * n)

-- it is so where there is this zone; where there is none, there are 0, and the core is as it was
pub record IfThereIs (Counts : Zones → (z n : ℕ) → ZoneCore → ZoneCore → Type 0) (zs : Zones) (z n : ℕ) (c d : ZoneCore)
    : Type 0 where
  pub there : z < zone_count zs → Counts zs z n c d
  pub none : zone_count zs ≤ z → (n ≡ 0) × (d ≡ c)

-- no block was laid down, and none was counted that found no slot; what rests with the core is as before
pub record LaysNone (s t : CoreState) : Type 0 where
  pub rest : LeavesRest s t
  pub counted : CountsNone s t
  pub last : last_laid t ≡ last_laid s

-- so many frames are free by what the core read
pub record CountsFrames (n : ℕ) (s t : CoreState) : Type 0 where
  pub counts : CountsFramesIn (zones_of s) n s.core t.core
  pub lays : LaysNone s t

-- so many children are free as a whole by what the core read
pub record CountsHuge (n : ℕ) (s t : CoreState) : Type 0 where
  pub counts : CountsHugeIn (zones_of s) n s.core t.core
  pub lays : LaysNone s t

-- so many frames are free in the zone of this number, by what the core read; 0 where there is no such zone
pub record CountsFramesOf (z n : ℕ) (s t : CoreState) : Type 0 where
  pub counts : IfThereIs CountsFramesAt (zones_of s) z n s.core t.core
  pub lays : LaysNone s t

-- so many of its children are free as a whole, in the same way
pub record CountsHugeOf (z n : ℕ) (s t : CoreState) : Type 0 where
  pub counts : IfThereIs CountsHugeAt (zones_of s) z n s.core t.core
  pub lays : LaysNone s t
