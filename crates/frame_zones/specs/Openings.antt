-- What an opening of zones gives.
use Rattle.std.specs.Prelude.{◌≡◌, ◌⊎◌, ℕ, ◌*◌, ◌/◌, ◌<◌, ◌++◌, ◌∷◌, List, [], length, map, slice_index_or}
use Rattle.std.specs.List.{All}
use Rattle.frame_words.specs.declared.fault.Fault.{Fault}
use Rattle.frame_words.specs.declared.fault.Fault.TheVariants.{BadRange, NoMemory}
use Rattle.frame_model.specs.Key.{IsKey}
use Rattle.core_frames.specs.declared.shared.allocator.Allocator.{Allocator}
use Rattle.core_frames.specs.declared.shared.allocator.Core.{Core}
use Rattle.core_frames.specs.Cores.{memory_of, IsNewCore}
use Rattle.frame_zones.specs.Homes.{StaysNowhere}
use Rattle.frame_zones.specs.Spans.{Place, place_of_span, place_at, MayBeZones, HoldsLawful}
use Rattle.frame_zones.specs.Zones.{zone_count, AreCoresOf, InEach}
use Rattle.frame_zones.specs.declared.image.ZoneImage.{ZoneImage}
use Rattle.frame_zones.specs.declared.spans.Span.{Span}
use Rattle.frame_zones.specs.declared.zones.Zones.{Zones}
use Rattle.frame_zones.specs.declared.zones.ZoneCore.{ZoneCore}

-- a core of each of these allocators, in order and as an opening gives it
pub record AreNewCoresIn (zones : List Allocator) (c : ZoneCore) : Type 0 where
  pub count : length c.cores.items ≡ length zones
  pub each : (z : ℕ) (a : Allocator) (x : Core) → z < length zones
      → IsNewCore (slice_index_or zones z a) (slice_index_or c.cores.items z x)

-- the core got one part more, and where takes begin is as before
pub record IsLonger (c : ZoneCore) (part : Core) (d : ZoneCore) : Type 0 where
  pub items : d.cores.items ≡ c.cores.items ++ part ∷ []
  pub home : d.home ≡ c.home
  pub same_stays : d.stays ≡ c.stays

-- each core got its part
pub record AreDealt (old : List ZoneCore) (parts : List Core) (new : List ZoneCore) : Type 0 where
  pub count : length new ≡ length old
  pub each : (k : ℕ) (c : ZoneCore) (x : Core) → k < length old
      → IsLonger (slice_index_or old k c) (slice_index_or parts k x) (slice_index_or new k c)

-- no part yet, a home among so many zones, and no order stays in another one
abbrev pub IsBegun : ℕ → ZoneCore → Type 0
IsBegun zones c = (c.cores.items ≡ []) × (c.home < zones) × StaysNowhere c

-- the home of a core by its number, of so many: they lie as evenly among the zones as they can
abbrev pub home_for : (number cores zones : ℕ) → ℕ
home_for number cores zones = number * zones / cores

-- each core has the home of its number
abbrev pub HaveHomes : (cores zones : ℕ) → List ZoneCore → Type 0
HaveHomes cores zones cs = (k : ℕ) (c : ZoneCore) → k < length cs
    → (slice_index_or cs k c).home ≡ home_for k cores zones

-- the allocator, at its first frame, is of the memory that lies at this place
pub record IsAt (p : Place) (first : ℕ) (a : Allocator) : Type 0 where
  pub first_frame : first ≡ p.first
  pub memory : memory_of a ≡ p.key
  pub is_key : IsKey p.key

-- the allocators, at their first frames, are of the memories that lie at these places
abbrev pub AreAt : List Place → List ℕ → List Allocator → Type 0
AreAt places firsts zones = (z : ℕ) (p : Place) (a : Allocator) → z < length zones
    → IsAt (slice_index_or places z p) (slice_index_or firsts z 0) (slice_index_or zones z a)

-- a core of all zones as an opening gives it: with nothing lent and nothing kept in any of them, and takes of each
-- order begin at home
pub record IsNewIn (zs : Zones) (c : ZoneCore) : Type 0 where
  pub are_cores : AreCoresOf zs c
  pub each : InEach zs (λ a x _. IsNewCore a x) c c
  pub nowhere : StaysNowhere c

-- the zones lie at these places, and these are their cores
pub record AreOpened (cores : ℕ) (places : List Place) (zs : Zones) (cs : List ZoneCore) : Type 0 where
  pub lawful : MayBeZones cores places
  pub zones : zone_count zs ≡ length places
  pub as_many : zs.cores ≡ cores
  pub are_at : AreAt places zs.firsts.items zs.zones.items
  pub count : length cs ≡ cores
  pub homes : HaveHomes cores (zone_count zs) cs
  pub each : All (IsNewIn zs) cs

-- zones may be opened at the spans: they may lie so, and each may hold back what it is to
abbrev pub MayOpenAt : ℕ → List Span → Type 0
MayOpenAt cores spans = MayBeZones cores (map place_of_span spans) × All HoldsLawful spans

-- why an opening was refused: zones may not be opened so; or there is not enough memory
abbrev pub AreUnopenedFor : ℕ → List Span → Fault → Type 0
AreUnopenedFor cores spans fault =
    ((fault ≡ BadRange) × ¬ MayOpenAt cores spans) ⊎ ((fault ≡ NoMemory) × MayOpenAt cores spans)

-- why an opening at images was refused: zones may not lie so; or there is not enough memory
abbrev pub AreUnopenedAt : ℕ → List ZoneImage → Fault → Type 0
AreUnopenedAt cores images fault =
    ((fault ≡ BadRange) × ¬ MayBeZones cores (map place_at images))
    ⊎ ((fault ≡ NoMemory) × MayBeZones cores (map place_at images))
