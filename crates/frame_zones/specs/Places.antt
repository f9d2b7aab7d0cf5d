-- What takes of just one block through cores of all zones leave.
use Rattle.std.specs.Prelude.{◌≡◌, ◌⊎◌, ℕ, ◌+◌, ◌<◌, ◌≤◌, Result, IfOk, IfErr}
use Rattle.frame_words.specs.Geometry.{huge_order}
use Rattle.frame_words.specs.declared.fault.TakeFault.{TakeFault}
use Rattle.frame_words.specs.declared.fault.TakeFault.TheVariants.{BadOrder, NoBlock, Contended}
use Rattle.frame_model.specs.Block.{block}
use Rattle.core_frames.specs.Bounds.{most_to_take_at}
use Rattle.core_frames.specs.Cores.{memory_of}
use Rattle.core_frames.specs.Places.{IsRefusedAt}
use Rattle.core_frames.specs.Uses.{HasTaken}
use Rattle.core_frames.specs.declared.shared.allocator.Allocator.{Allocator}
use Rattle.core_frames.specs.declared.shared.allocator.Core.{Core}
use Rattle.frame_zones.specs.Frames.{IsFrameIn, IsInNoZone}
use Rattle.frame_zones.specs.Uses.{OthersStay, KeepsAll, LendsSame, moves_through}
use Rattle.frame_zones.specs.Zones.{zone_at, core_at, first_frame_in, InEach, IsOutOfItsZone}
use Rattle.frame_zones.specs.declared.block.ZoneBlock.{ZoneBlock}
use Rattle.frame_zones.specs.declared.zones.ZoneCore.{ZoneCore}
use Rattle.frame_zones.specs.declared.zones.Zones.{Zones}

-- the most moves of a take of just one block in this zone
abbrev pub most_at_place_in : Allocator → ℕ
most_at_place_in a = most_to_take_at (memory_of a)

-- in all zones at most as many moves were made as a take of just one block makes in the one that has the frame
abbrev pub MovesForPlace : Zones → ℕ → ZoneCore → ZoneCore → Type 0
MovesForPlace zs x c d = (z local : ℕ) (a : Allocator) → IsFrameIn zs x z local
    → moves_through d ≤ moves_through c + most_at_place_in (zone_at zs z a)

-- the block of the order that begins at this frame of all zones is out in its zone, and one block more is lent
-- there; the core of every other zone is as before
pub record HasTakenPlace (zs : Zones) (x n : ℕ) (b : ZoneBlock) (c d : ZoneCore) : Type 0 where
  pub is_out : IsOutOfItsZone zs b
  pub begins : first_frame_in zs b ≡ x
  pub here : (a : Allocator) (y : Core)
      → HasTaken (zone_at zs b.zone a) n b.block (core_at c b.zone y) (core_at d b.zone y)
  pub others : OthersStay zs b.zone c d

-- the zone that has the frame refused the block of the order that begins there, and the core of every other
-- zone is as before
pub record IsRefusedThere (zs : Zones) (x n : ℕ) (c d : ZoneCore) (fault : TakeFault) : Type 0 where
  pub zone : ℕ
  pub local : ℕ
  pub is_there : IsFrameIn zs x zone local
  pub here : (a : Allocator) (y : Core)
      → IsRefusedAt (zone_at zs zone a) (block local n) (core_at c zone y) (core_at d zone y) fault
  pub others : OthersStay zs zone c d

-- why a take of just one block was refused, which begins at this frame of all zones: there are no blocks of that
-- order, and all is as before; or no zone has the frame, and all is as before; or the zone that has it refused it
abbrev pub AreRefusedAt : Zones → (x n : ℕ) → ZoneCore → ZoneCore → TakeFault → Type 0
AreRefusedAt zs x n c d BadOrder = (huge_order < n) × (d ≡ c)
AreRefusedAt zs x n c d NoBlock =
    (n ≤ huge_order) × ((IsInNoZone zs x × (d ≡ c)) ⊎ IsRefusedThere zs x n c d NoBlock)
AreRefusedAt zs x n c d Contended = (n ≤ huge_order) × IsRefusedThere zs x n c d Contended

-- a take of just the block of the order that begins at this frame of all zones: it is out and lent, or it is
-- refused and nothing is; what the cores keep, and where takes begin, is as before
pub record TakesPlaceAmong (zs : Zones) (x n : ℕ) (answer : Result ZoneBlock TakeFault) (c d : ZoneCore)
    : Type 0 where
  pub kept : InEach zs KeepsAll c d
  pub same_stays : d.stays ≡ c.stays
  pub ok : IfOk answer (λ b. HasTakenPlace zs x n b c d)
  pub err : IfErr answer (λ fault. AreRefusedAt zs x n c d fault × InEach zs LendsSame c d)
