-- What is parted off for a closing.
use Rattle.std.specs.Prelude.{◌≡◌, ℕ, ◌<◌, ◌++◌, ◌∷◌, List, [], length, slice_index_or, vec_len, vec_capacity}
use Rattle.std.specs.List.{All}
use Rattle.core_frames.specs.declared.shared.allocator.Allocator.{Allocator}
use Rattle.core_frames.specs.declared.shared.allocator.Core.{Core}
use Rattle.core_frames.specs.Cores.{IsCoreOf}
use Rattle.frame_zones.specs.Openings.{AreDealt}
use Rattle.frame_zones.specs.Zones.{HasCoresIn}
use Rattle.frame_zones.specs.declared.zones.ZoneCore.{ZoneCore}

-- the core has a part in some zone
abbrev pub HasPart : ZoneCore → Type 0
HasPart c = 0 < length c.cores.items

-- the core has room for one part more
abbrev pub HasRoomForPart : ZoneCore → Type 0
HasRoomForPart c = vec_len c.cores < vec_capacity c.cores

-- the last of the allocators was parted off, with its cores, in order; the others and their cores are
-- as before
pub record PartsOff (old : List Allocator) (a : Allocator) (new : List Allocator)
    (all : List ZoneCore) (parts : List Core) (left : List ZoneCore) : Type 0 where
  pub zones : old ≡ new ++ a ∷ []
  pub dealt : AreDealt left parts all
  pub count : length parts ≡ length left
  pub parts_in : All (IsCoreOf a) parts
  pub left_in : All (HasCoresIn new) left

-- all but the last first frame are left
abbrev pub KeepsFirsts : List ℕ → List ℕ → Type 0
KeepsFirsts old new = (z : ℕ) → z < length new → slice_index_or new z 0 ≡ slice_index_or old z 0
