-- What takes of just one block leave, by numbers and of blocks whose rights the caller keeps.
use Rattle.std.specs.Prelude.{◌≡◌, ◌⊎◌, ℕ, ◌+◌, ◌≤◌}
use Rattle.core_frames.specs.Bounds.{most_in_give}
use Rattle.core_frames.specs.declared.shared.allocator.Allocator.{Allocator}
use Rattle.frame_words.specs.declared.fault.TakeFault.{TakeFault}
use Rattle.frame_words.specs.declared.fault.TakeFault.TheVariants.{BadOrder, NoBlock, Contended}
use Rattle.frame_zones.specs.Frames.{IsFrameIn}
use Rattle.frame_zones.specs.Places.{AreRefusedAt, MovesForPlace, most_at_place_in}
use Rattle.frame_zones.specs.Uses.{OthersStay, KeepsAll, moves_through}
use Rattle.frame_zones.specs.Zones.{zone_at, first_frame_in, InEach}
use Rattle.frame_zones.specs.declared.block.ZoneBlock.{ZoneBlock}
use Rattle.frame_zones.specs.declared.zones.ZoneCore.{ZoneCore}
use Rattle.frame_zones.specs.declared.zones.Zones.{Zones}
use Rattle.zone_slots.specs.Blocks.{HasTakenBlock}
use Rattle.zone_slots.specs.Calls.{zones_of, TakesFor}
use Rattle.zone_slots.specs.Uses.{TakesByNumber, EachLendsSame, FindsNoSlot}
use Rattle.zone_slots.specs.declared.core_state.CoreState.{CoreState}

-- a block was taken, which begins at the frame of this number, by the moves of such a take, and in every other zone all
-- is as before
pub record TakesPlaceByNumber (zs : Zones) (order frame : ℕ) (c d : ZoneCore) : Type 0 where
  pub taken : TakesByNumber zs order frame c d
  pub others : OthersStay zs taken.zone c d
  pub moves : MovesForPlace zs frame c d

-- just this block was taken through the core by the moves of such a take, and laid down at its slot; in every other
-- zone all is as before
pub record TakesPlaceFor (order frame : ℕ) (s t : CoreState) : Type 0 where
  pub takes : TakesFor order frame s t
  pub others : OthersStay (zones_of s) takes.taken.zone s.core t.core
  pub moves : MovesForPlace (zones_of s) frame s.core t.core

-- the block is just this one, is out in the zone that it names, and was taken there by the moves of such a take; in
-- every other zone all is as before
pub record HasTakenBlockAt (zs : Zones) (order frame : ℕ) (c d : ZoneCore) (b : ZoneBlock) : Type 0 where
  pub takes : HasTakenBlock zs order c d b
  pub begins : first_frame_in zs b ≡ frame
  pub others : OthersStay zs b.zone c d
  pub moves : MovesForPlace zs frame c d

-- just this block was taken through the core
abbrev pub TakesBlockAtFor : (order frame : ℕ) → CoreState → CoreState → ZoneBlock → Type 0
TakesBlockAtFor order frame s t b = HasTakenBlockAt (zones_of s) order frame s.core t.core b

-- why a take of just this block was refused, which needs no slot: as one of all zones is, and no zone lends a
-- block more; what the core keeps in each is as before, and the moves are those of one such take
abbrev pub IsRefusedBlockAt : Zones → (order frame : ℕ) → ZoneCore → ZoneCore → TakeFault → Type 0
IsRefusedBlockAt zs order frame c d fault =
    AreRefusedAt zs frame order c d fault × EachLendsSame zs c d × InEach zs KeepsAll c d × MovesForPlace zs frame c d

-- the block found no slot, and is counted; no zone lends a block more, in every zone but the one that has the frame all
-- is as before, and the moves are those of one such take and one give
pub record FindsNoSlotAt (zs : Zones) (order frame : ℕ) (c d : ZoneCore) (count later : ℕ) : Type 0 where
  pub no_slot : FindsNoSlot zs order c d count later
  pub zone : ℕ
  pub local : ℕ
  pub is_there : IsFrameIn zs frame zone local
  pub others : OthersStay zs zone c d
  pub most : (a : Allocator) → moves_through d ≤ moves_through c + most_at_place_in (zone_at zs zone a) + most_in_give

-- why such a take was refused that needs a slot: as one that needs none; or the block found no slot, which alone
-- is counted
abbrev pub IsRefusedTakeAt : Zones → (order frame : ℕ) → ZoneCore → ZoneCore → (count later : ℕ) → TakeFault → Type 0
IsRefusedTakeAt zs order frame c d count later BadOrder =
    IsRefusedBlockAt zs order frame c d BadOrder × (later ≡ count)
IsRefusedTakeAt zs order frame c d count later NoBlock =
    IsRefusedBlockAt zs order frame c d NoBlock × (later ≡ count)
IsRefusedTakeAt zs order frame c d count later Contended =
    (IsRefusedBlockAt zs order frame c d Contended × (later ≡ count))
    ⊎ FindsNoSlotAt zs order frame c d count later

-- why such a take through the core was refused
abbrev pub RefusesTakeAt : (order frame : ℕ) → CoreState → CoreState → TakeFault → Type 0
RefusesTakeAt order frame s t fault =
    IsRefusedTakeAt (zones_of s) order frame s.core t.core s.slotless t.slotless fault

-- why such a take of a block through the core was refused, which needs no slot
abbrev pub RefusesBlockAt : (order frame : ℕ) → CoreState → CoreState → TakeFault → Type 0
RefusesBlockAt order frame s t fault = IsRefusedBlockAt (zones_of s) order frame s.core t.core fault
