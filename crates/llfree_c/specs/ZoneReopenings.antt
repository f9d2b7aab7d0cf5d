-- The memories of zones that an opening at an image is asked for, and why there are none.
use Rattle.std.specs.Prelude.{◌≡◌, ◌⊎◌, ℕ, ◌<◌, true, List, [], ◌∷◌, ◌++◌, Some, length, map, slice_index_or}
use Rattle.std.specs.List.{All}
use Rattle.std.specs.declared.alloc.Global.{Global}
use Rattle.std.specs.declared.boxed.Box.{Box}
use Rattle.std.specs.declared.vec.Vec.{Vec}
use Rattle.frame_model.specs.declared.block.FrameBlock.{FrameBlock}
use Rattle.core_frames.specs.declared.shared.allocator.Core.{Core}
use Rattle.frame_slots.specs.Slots.{laid_down}
use Rattle.frame_slots.specs.Reopenings.{KeepsHeldBeside}
use Rattle.frame_slots.specs.declared.receipt.Receipt.{Receipt}
use Rattle.frame_zones.specs.Openings.{HaveHomes}
use Rattle.frame_zones.specs.Zones.{core_at}
use Rattle.frame_zones.specs.declared.zones.ZoneCore.{ZoneCore}
use Rattle.zone_slots.specs.Layouts.{Stretch, stretch_at, AreEven}
use Rattle.zone_slots.specs.Openings.{AreListsIn, Shares, IsUnusedState, parts_from_last}
use Rattle.zone_slots.specs.ZoneClaims.{blocks_within}
use Rattle.zone_slots.specs.ZoneSpans.{MayBeUsed}
use Rattle.zone_slots.specs.declared.core_state.CoreState.{CoreState}
use Rattle.zone_slots.specs.declared.memory.Memory.{Memory}
use Rattle.llfree_c.specs.OpenCores.{AreCoresInOrder, HasZones, IsCoreBehind, IsOneOpen, core_behind, states_in}
use Rattle.llfree_c.specs.Openings.{pairs_of, AreFewEnough, AreZoneSizes, HasNoZones, ZonesDoNotFit}
use Rattle.llfree_c.specs.Status.{no_memory}
use Rattle.llfree_c.specs.ZoneClaims.{numbers_of_zone, AreClaimedOf, HasNoClaimsIn, IsUnreachedIn}
use Rattle.llfree_c.specs.declared.blocks.ClaimedBlock.{ClaimedBlock}
use Rattle.llfree_c.specs.declared.core_handle.CoreHandle.{CoreHandle}
use Rattle.llfree_c.specs.declared.ranges.FrameRange.{FrameRange}

-- in each zone just those of the blocks that begin there were laid down before any core was handed out
abbrev pub LaysClaimsDown : List Stretch → List FrameBlock → Memory → Type 0
LaysClaimsDown zones blocks m = (z : ℕ) (r : Vec Receipt Global) → z < length zones
    → map laid_down (slice_index_or m.reclaimed.items z r).items ≡ blocks_within (stretch_at zones z) blocks

-- in each zone the core keeps just what the image holds there and none of the blocks has, and lends one block
-- for each of those that begin there
abbrev pub KeepsUnclaimed : List Stretch → List ℕ → List FrameBlock → ZoneCore → Type 0
KeepsUnclaimed zones numbers blocks c = (z : ℕ) (x : Core) → z < length zones
    → KeepsHeldBeside (stretch_at zones z).1 (numbers_of_zone zones numbers z) (blocks_within (stretch_at zones z) blocks)
    (core_at c z x)

-- the last core keeps the rest, and the others were not used yet
pub record HasKeeperAmong (zones : List Stretch) (numbers : List ℕ) (blocks : List FrameBlock)
    (states : List CoreState) : Type 0 where
  pub others : List CoreState
  pub keeper : CoreState
  pub are : states ≡ others ++ keeper ∷ []
  pub unused : All IsUnusedState others
  pub keeps : KeepsUnclaimed zones numbers blocks keeper.core

-- these are so many cores of one memory of these zones with no ranges, with slots for its blocks, which has laid
-- down just these; of what the image with these numbers holds besides the last core keeps all
pub record ShareReopened (as_many : ℕ) (zones : List Stretch) (numbers : List ℕ) (blocks : List FrameBlock)
    (states : List CoreState) : Type 0 where
  pub count : length states ≡ as_many
  pub memory : Memory
  pub are_zones : HasZones as_many zones [] memory
  pub slots : AreListsIn true memory.zones memory.slots.items
  pub homes : HaveHomes as_many (length zones) (parts_from_last states)
  pub laid : LaysClaimsDown zones blocks memory
  pub share : All (Shares memory) states
  pub keeper : HasKeeperAmong zones numbers blocks states

-- cores of these zones were opened at an image with these numbers, of which just the claimed blocks, which may be
-- claimed, are out
abbrev pub ReopenStates : ℕ → List Stretch → List ℕ → List ClaimedBlock → List CoreState → Type 0
ReopenStates as_many zones numbers claims states =
    (blocks : List FrameBlock) × AreClaimedOf zones numbers claims blocks
    × ShareReopened as_many zones numbers blocks states

-- it is so of the cores in boxes, and of the zones of so many frames without a hole
abbrev pub ReopenEven : {Z : Type 0} → (as_many frames : ℕ) → List ℕ → List ClaimedBlock
    → List (Box CoreState Z) → Type 0
ReopenEven as_many frames numbers claims boxes =
    (zones : List Stretch) × AreEven frames zones × ReopenStates as_many zones numbers claims (states_in boxes)

-- it is so of the cores in boxes, and of zones that C passed
abbrev pub ReopenGiven : {Z : Type 0} → ℕ → List FrameRange → List ℕ → List ClaimedBlock
    → List (Box CoreState Z) → Type 0
ReopenGiven as_many zones numbers claims boxes = ReopenStates as_many (pairs_of zones) numbers claims (states_in boxes)

-- the core behind the first handle keeps the rest, and those behind the others were not used yet
pub record HasKeeperBehind (zones : List Stretch) (numbers : List ℕ) (blocks : List FrameBlock)
    (handles : List CoreHandle) : Type 0 where
  pub keeper : CoreState
  pub others : List CoreState
  pub behind : map core_behind handles ≡ Some keeper ∷ map Some others
  pub unused : All IsUnusedState others
  pub keeps : KeepsUnclaimed zones numbers blocks keeper.core

-- the cores behind all of the handles, in their order, share one memory of these zones with no ranges, with slots
-- for its blocks, which has laid down just these; of what the image with these numbers holds besides the core
-- behind the first handle keeps all
pub record ReopensIn (zones : List Stretch) (numbers : List ℕ) (blocks : List FrameBlock)
    (handles : List CoreHandle) : Type 0 where
  pub memory : Memory
  pub are_zones : HasZones (length handles) zones [] memory
  pub slots : AreListsIn true memory.zones memory.slots.items
  pub in_order : AreCoresInOrder (length zones) handles
  pub laid : LaysClaimsDown zones blocks memory
  pub share : All (IsCoreBehind memory) handles
  pub keeper : HasKeeperBehind zones numbers blocks handles

-- the cores behind the handles are of the zones of so many frames without a hole, opened at an image with these
-- numbers, of which just the claimed blocks, which may be claimed, are out
abbrev pub ReopensCores : ℕ → List ℕ → List ClaimedBlock → List CoreHandle → Type 0
ReopensCores frames numbers claims handles =
    (zones : List Stretch) × (blocks : List FrameBlock) × AreEven frames zones
    × AreClaimedOf zones numbers claims blocks × ReopensIn zones numbers blocks handles

-- the cores behind the handles are of zones that C passed, opened at an image with these numbers, of which just
-- the claimed blocks, which may be claimed, are out
abbrev pub ReopensZones : List FrameRange → List ℕ → List ClaimedBlock → List CoreHandle → Type 0
ReopensZones zones numbers claims handles =
    (blocks : List FrameBlock) × AreClaimedOf (pairs_of zones) numbers claims blocks
    × ReopensIn (pairs_of zones) numbers blocks handles

-- why these zones were not opened at an image: blocks are not claimed, or one that may be claimed was not
-- reached
abbrev pub IsNotReopenedIn : List Stretch → List ℕ → List ClaimedBlock → (status : ℕ) → Type 0
IsNotReopenedIn zones numbers claims status =
    HasNoClaimsIn zones numbers claims status ⊎ IsUnreachedIn zones numbers claims status

-- why the zones of so many frames without a hole were not: there are none for so many cores; or there are, but memory
-- was wanting, or as above
abbrev pub IsNotReopenedEven : (frames cores : ℕ) → List ℕ → List ClaimedBlock → (status : ℕ) → Type 0
IsNotReopenedEven frames cores numbers claims status =
    HasNoZones frames cores status
    ⊎ (AreZoneSizes frames cores × ((status ≡ no_memory)
    ⊎ ((zones : List Stretch) × AreEven frames zones × IsNotReopenedIn zones numbers claims status)))

-- why no cores were opened at an image behind these handles: one was open, or as above
abbrev pub HasNoCoresAt : ℕ → List ℕ → List ClaimedBlock → List CoreHandle → ℕ → Type 0
HasNoCoresAt frames numbers claims handles status =
    IsOneOpen handles status ⊎ IsNotReopenedEven frames (length handles) numbers claims status

-- why none of zones that C passed were: one was open; zones may not lie so for so many cores; memory was wanting for
-- so many; or they may lie so, but blocks are not claimed or reached
abbrev pub HasNoCoresInAt : List FrameRange → List ℕ → List ClaimedBlock → List CoreHandle → ℕ → Type 0
HasNoCoresInAt zones numbers claims handles status =
    IsOneOpen handles status ⊎ ZonesDoNotFit (length handles) (pairs_of zones) status
    ⊎ ((status ≡ no_memory) × AreFewEnough (length handles) (pairs_of zones))
    ⊎ (MayBeUsed (length handles) (pairs_of zones) × IsNotReopenedIn (pairs_of zones) numbers claims status)
