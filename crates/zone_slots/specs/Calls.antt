-- What takes, gives and splits by numbers leave.
use Rattle.std.specs.Prelude.{◌≡◌, ◌⊎◌, ℕ, ◌+◌, ◌-◌, ◌^◌, Option, Some, option_map}
use Rattle.std.specs.Arc.{arc_value}
use Rattle.frame_words.specs.declared.fault.TakeFault.{TakeFault}
use Rattle.frame_model.specs.Block.{block}
use Rattle.frame_model.specs.declared.block.FrameBlock.{FrameBlock}
use Rattle.frame_zones.specs.FreeCounts.{frames_among}
use Rattle.frame_zones.specs.Uses.{KeepsAll}
use Rattle.frame_zones.specs.Zones.{zone_count, InEach}
use Rattle.frame_zones.specs.declared.zones.Zones.{Zones}
use Rattle.zone_slots.specs.ImageParts.{numbers_before}
use Rattle.zone_slots.specs.Looks.{block_seen, HasBlockOf}
use Rattle.zone_slots.specs.Memories.{block_laid, block_given}
use Rattle.zone_slots.specs.Parts.{parts_laid, parts_of, SplitsToByNumber, IsRefusedSplitTo}
use Rattle.zone_slots.specs.Uses.{TakesByNumber, GivesByNumber, SplitsByNumber, LoseSome, FindsNoSlot, IsRefusedBlock, IsRefusedTake, one_more}
use Rattle.zone_slots.specs.declared.core_state.CoreState.{CoreState}
use Rattle.zone_slots.specs.declared.refusal.Refusal.{Refusal}

-- the zones that the core belongs to
abbrev pub zones_of : CoreState → Zones
zones_of s = (arc_value s.shared).zones

-- both share one memory and its slots
abbrev pub SharesOne : CoreState → CoreState → Type 0
SharesOne s t = t.shared ≡ s.shared

-- what the core keeps in each zone is as before
abbrev pub KeepsAllInEach : CoreState → CoreState → Type 0
KeepsAllInEach s t = InEach (zones_of s) KeepsAll s.core t.core

-- the frames of the core's memory, of all zones
abbrev pub frames_by : CoreState → ℕ
frames_by s = frames_among (zones_of s)

-- how many numbers an image of the core's zones has
abbrev pub image_numbers_by : CoreState → ℕ
image_numbers_by s = numbers_before (zones_of s) (zone_count (zones_of s))

-- the block that the last take through the core laid down at its slot
abbrev pub last_laid : CoreState → Option FrameBlock
last_laid s = option_map (block_laid (zones_of s)) s.last

-- the block that the last give through the core gave
abbrev pub last_given : CoreState → Option FrameBlock
last_given s = option_map (block_given (zones_of s)) s.given

-- the halves that the last split through the core laid down at their slots
abbrev pub last_halves : CoreState → Option (FrameBlock × FrameBlock)
last_halves s = option_map (λ r. (block_laid (zones_of s) r.0, block_laid (zones_of s) r.1)) s.halves

-- a block of the order was taken through the core, and this very block was laid down at its slot
pub record TakesFor (order frame : ℕ) (s t : CoreState) : Type 0 where
  pub taken : TakesByNumber (zones_of s) order frame s.core t.core
  pub laid : last_laid t ≡ Some (block frame order)

-- a block was given through the core, and it was this very one
pub record GivesFor (order frame : ℕ) (s t : CoreState) : Type 0 where
  pub given : GivesByNumber (zones_of s) order frame s.core t.core
  pub very : last_given t ≡ Some (block frame order)

-- the block was split through the core, and its very halves were laid down at their slots
pub record SplitsFor (order frame : ℕ) (s t : CoreState) : Type 0 where
  pub split : SplitsByNumber (zones_of s) order frame s.core t.core
  pub laid : last_halves t
      ≡ Some (block frame (order - 1), block (frame + 2 ^ (order - 1)) (order - 1))

-- what the last split into all parts of one order through the core laid down at their slots, side by side
abbrev pub last_parts : CoreState → Option (FrameBlock × ℕ)
last_parts s = option_map (parts_laid (zones_of s)) s.parts

-- the block was split through the core into all its blocks of an order, and these very ones were laid down
-- at their slots
pub record SplitsToFor (order to frame : ℕ) (s t : CoreState) : Type 0 where
  pub split : SplitsToByNumber (zones_of s) order to frame s.core t.core
  pub laid : last_parts t ≡ Some (parts_of frame order to)

-- the block that the last look through the core saw at its slot
abbrev pub last_sight : CoreState → Option FrameBlock
last_sight s = option_map (block_seen (zones_of s)) s.seen

-- the memory has a block of the order that begins at this frame, and this very block was seen at its slot
pub record SeesFor (order frame : ℕ) (s t : CoreState) : Type 0 where
  pub is_block : HasBlockOf (zones_of s) order frame
  pub seen : last_sight t ≡ Some (block frame order)

-- why a split of this block into blocks of an order through the core was refused; what it keeps in each zone is as
-- before
abbrev pub RefusesSplitTo : (order to frame : ℕ) → CoreState → CoreState → Refusal → Type 0
RefusesSplitTo n to frame s t refusal =
    IsRefusedSplitTo (zones_of s) n to frame s.core t.core s.slotless t.slotless refusal × KeepsAllInEach s t

-- the core is as it was in each zone
abbrev pub KeepsCore : CoreState → CoreState → Type 0
KeepsCore s t = t.core ≡ s.core

-- the core found no block of the order in any zone, and an exchange was lost to other cores
abbrev pub LosesFor : ℕ → CoreState → CoreState → Type 0
LosesFor order s t = LoseSome (zones_of s) order s.core t.core

-- the core has counted as many blocks that found no slot as before
abbrev pub CountsNone : CoreState → CoreState → Type 0
CountsNone s t = t.slotless ≡ s.slotless

-- the core remembers the block that its last take laid down
abbrev pub RemembersLast : CoreState → CoreState → Type 0
RemembersLast s t = last_laid t ≡ last_laid s

-- the core has counted one block more that found no slot
abbrev pub CountsOne : CoreState → CoreState → Type 0
CountsOne s t = t.slotless ≡ one_more s.slotless

-- the core found no block of the order in any zone, and an exchange was lost to other cores; or the
-- block that it took found no slot, which alone is counted
abbrev pub IsContendedFor : ℕ → CoreState → CoreState → Type 0
IsContendedFor order s t =
    (LosesFor order s t × CountsNone s t)
    ⊎ FindsNoSlot (zones_of s) order s.core t.core s.slotless t.slotless

-- why a take of the order through the core was refused
abbrev pub RefusesTake : ℕ → CoreState → CoreState → TakeFault → Type 0
RefusesTake n s t fault = IsRefusedTake (zones_of s) n s.core t.core s.slotless t.slotless fault

-- why a take of a block of the order through the core was refused, which needs no slot
abbrev pub RefusesBlock : ℕ → CoreState → CoreState → TakeFault → Type 0
RefusesBlock n s t fault = IsRefusedBlock (zones_of s) n s.core t.core fault
