-- What the cores of zones that are opened again share, and what they keep.
use Rattle.std.specs.Prelude.{◌≡◌, ◌⊎◌, ℕ, ◌<◌, true, List, [], ◌∷◌, ◌++◌, length, map, slice_index_or}
use Rattle.std.specs.List.{All}
use Rattle.std.specs.declared.alloc.Global.{Global}
use Rattle.std.specs.declared.vec.Vec.{Vec}
use Rattle.frame_words.specs.declared.fault.Fault.{Fault}
use Rattle.frame_model.specs.declared.block.FrameBlock.{FrameBlock}
use Rattle.core_frames.specs.declared.shared.allocator.Allocator.{Allocator}
use Rattle.core_frames.specs.declared.shared.allocator.Core.{Core}
use Rattle.core_frames.specs.Cores.{memory_of}
use Rattle.frame_slots.specs.Reopenings.{KeepsHeldBeside, IsNoReplay}
use Rattle.frame_slots.specs.Slots.{laid_down}
use Rattle.frame_slots.specs.declared.receipt.Receipt.{Receipt}
use Rattle.frame_zones.specs.Openings.{HaveHomes}
use Rattle.frame_zones.specs.Spans.{Place}
use Rattle.frame_zones.specs.Uses.{OthersStay}
use Rattle.frame_zones.specs.Zones.{zone_count, zone_at, core_at, AreCoresOf}
use Rattle.frame_zones.specs.declared.spans.Span.{Span}
use Rattle.frame_zones.specs.declared.zones.Zones.{Zones}
use Rattle.frame_zones.specs.declared.zones.ZoneCore.{ZoneCore}
use Rattle.zone_slots.specs.ImageParts.{numbers_from}
use Rattle.zone_slots.specs.Openings.{LieAt, AreListsIn, Shares, parts_from_last, IsUnusedState, MayBeOpened, IsNoOpening}
use Rattle.zone_slots.specs.declared.core_state.CoreState.{CoreState}
use Rattle.zone_slots.specs.declared.memory.Memory.{Memory}

-- the core still has a part of each zone, and those of every other zone are as before
pub record ChangesIn (zs : Zones) (z : ℕ) (c d : ZoneCore) : Type 0 where
  pub are_cores : AreCoresOf zs d
  pub others : OthersStay zs z c d

-- the blocks of a zone that an opening is told to hold, counted from the zone's first frame
abbrev pub claims_in : List (Vec FrameBlock Global) → ℕ → Vec FrameBlock Global → List FrameBlock
claims_in claimed z other = (slice_index_or claimed z other).items

-- in this zone the core keeps just what the image holds there and none of its claimed blocks has
abbrev pub KeepsRestIn : List ℕ → List (Vec FrameBlock Global) → Zones → ZoneCore → ℕ → Type 0
KeepsRestIn numbers claimed zs c z = (a : Allocator) (x : Core) (v : Vec FrameBlock Global)
    → KeepsHeldBeside (memory_of (zone_at zs z a)).frames (numbers_from zs numbers z) (claims_in claimed z v) (core_at c z x)

-- it is so in each zone
abbrev pub KeepsRests : List ℕ → List (Vec FrameBlock Global) → Zones → ZoneCore → Type 0
KeepsRests numbers claimed zs c = (z : ℕ) → z < zone_count zs → KeepsRestIn numbers claimed zs c z

-- just the claimed blocks of this zone were laid down at their slots
abbrev pub HasLaidIn : List (Vec FrameBlock Global) → List (Vec Receipt Global) → ℕ → Type 0
HasLaidIn claimed rows z = (v : Vec FrameBlock Global) (r : Vec Receipt Global)
    → map laid_down (slice_index_or rows z r).items ≡ claims_in claimed z v

-- in each zone just its claimed blocks were laid down before any core was handed out
abbrev pub HaveLaidDown : List (Vec FrameBlock Global) → Memory → Type 0
HaveLaidDown claimed m = (z : ℕ) → z < zone_count m.zones → HasLaidIn claimed m.reclaimed.items z

-- the last core keeps what the image holds besides the claimed blocks, and the others were not used yet
pub record HasKeeper (numbers : List ℕ) (claimed : List (Vec FrameBlock Global)) (zs : Zones)
    (states : List CoreState) : Type 0 where
  pub others : List CoreState
  pub keeper : CoreState
  pub are : states ≡ others ++ keeper ∷ []
  pub unused : All IsUnusedState others
  pub keeps : KeepsRests numbers claimed zs keeper.core

-- these are all cores of one memory whose zones lie at these places, with slots, which has laid these blocks
-- down; what the image with these numbers holds besides is kept; and each has the home of its number, the last
-- one first
pub record AreReopened (as_many : ℕ) (places : List Place) (numbers : List ℕ)
    (claimed : List (Vec FrameBlock Global)) (states : List CoreState) : Type 0 where
  pub count : length states ≡ as_many
  pub memory : Memory
  pub zones : LieAt as_many places memory.zones
  pub slots : AreListsIn true memory.zones memory.slots.items
  pub homes : HaveHomes as_many (length places) (parts_from_last states)
  pub laid : HaveLaidDown claimed memory
  pub share : All (Shares memory) states
  pub keeper : HasKeeper numbers claimed memory.zones states

-- why zones were not opened again: they may not be opened so; or they may, and memory was wanting, a block that was
-- claimed is not held by itself, or some block was not found
abbrev pub IsNoReopening : ℕ → List Span → Fault → Type 0
IsNoReopening cores spans fault =
    IsNoOpening cores spans fault ⊎ (IsNoReplay fault × MayBeOpened cores spans)
