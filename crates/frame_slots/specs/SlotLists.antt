-- Lists of slots: where the slot of a block stands, and where none does.
use Rattle.std.specs.Prelude.{◌≡◌, ◌⊎◌, ℕ, ◌+◌, ◌-◌, ◌*◌, ◌/◌, ◌%◌, ◌^◌, ◌<◌, ◌≤◌, List, length, slice_index, slice_index_or, vec_len, vec_capacity, true}
use Rattle.std.specs.Int.{bit_at}
use Rattle.std.specs.List.{list_any}
use Rattle.frame_words.specs.Geometry.{child_frames}
use Rattle.frame_model.specs.Key.{is_in_range}
use Rattle.core_frames.specs.Cores.{IsCoreOf}
use Rattle.core_frames.specs.declared.shared.allocator.Allocator.{Allocator}
use Rattle.core_frames.specs.declared.shared.allocator.Core.{Core}
use Rattle.frame_slots.specs.Slots.{IsSlotFor}
use Rattle.frame_slots.specs.declared.slot.Slot.{Slot}
use Rattle.frame_slots.specs.declared.slots.SlotList.{SlotList}

-- the place of a block's slot: the sum of its first frame and its last
abbrev pub place_for : (frame order : ℕ) → ℕ
place_for frame order = 2 * frame + 2 ^ order - 1

-- the place is one behind those of a child's blocks, and no block's
abbrev pub IsBetweenChildren : ℕ → Type 0
IsBetweenChildren place = place % (2 * child_frames) ≡ 2 * child_frames - 1

-- how many places have their bits in one word
abbrev pub gap_bits : ℕ
gap_bits = 32

-- no block has its slot at the place: its bit is set
abbrev pub IsGap : List ℕ → ℕ → Type 0
IsGap gaps place = bit_at (slice_index gaps (place / gap_bits)) (place % gap_bits) ≡ 1

-- a block that the list reaches has its slot at its place, if that is no gap
abbrev pub AreSlotsOf : Allocator → (slots : List Slot) → (gaps : List ℕ) → Type 0
AreSlotsOf a slots gaps = (frame order : ℕ) (d : Slot) → order ≤ 9 → frame % 2 ^ order ≡ 0
    → place_for frame order < length slots → ¬ IsGap gaps (place_for frame order)
    → IsSlotFor a frame order (slice_index_or slots (place_for frame order) d)

-- they are those of the list
abbrev pub IsListOf : Allocator → SlotList → Type 0
IsListOf a s = AreSlotsOf a s.list.items s.gaps.words.items

-- the list and the core are the allocator's
abbrev pub HasListAndCore : Allocator → SlotList → Core → Type 0
HasListAndCore a s c = IsListOf a s × IsCoreOf a c

-- the place is the next one of the list, and no block's
pub record IsNextBetween (place : ℕ) (s : SlotList) : Type 0 where
  pub next : place ≡ vec_len s.list
  pub between : IsBetweenChildren place

-- there is room for the slots of all blocks of so many frames
abbrev pub HasRoomFor : ℕ → SlotList → Type 0
HasRoomFor frames s = 2 * frames ≤ vec_capacity s.list

-- at the place stands the slot of a block
pub record HasSlotAt (place : ℕ) (s : SlotList) : Type 0 where
  pub reached : place < length s.list.items
  pub no_gap : ¬ IsGap s.gaps.words.items place

-- there is such an aligned block, and it has a slot in the list
pub record HasSlotFor (frame order : ℕ) (s : SlotList) : Type 0 where
  pub few : order ≤ 9
  pub aligned : frame % 2 ^ order ≡ 0
  pub slot : HasSlotAt (place_for frame order) s

-- a frame of the block lies in one of the ranges
pub record MeetsRanges (ranges : List (ℕ × ℕ)) (frame order : ℕ) : Type 0 where
  pub held : ℕ
  pub from : frame ≤ held
  pub to : held < frame + 2 ^ order
  pub in_range : list_any (is_in_range held) ranges ≡ true

-- each block of so many frames whose place this is has a slot, or a frame in one of the ranges
abbrev pub AccountsFor : ℕ → List (ℕ × ℕ) → (place : ℕ) → SlotList → Type 0
AccountsFor frames ranges place s = (frame order : ℕ) → order ≤ 9 → frame % 2 ^ order ≡ 0
    → place_for frame order ≡ place → frame + 2 ^ order ≤ frames → HasSlotAt place s ⊎ MeetsRanges ranges frame order

-- each block of so many frames has a slot, but those with a frame in one of the ranges
abbrev pub HasSlotsBeside : ℕ → List (ℕ × ℕ) → SlotList → Type 0
HasSlotsBeside frames ranges s = (frame order : ℕ) → order ≤ 9 → frame % 2 ^ order ≡ 0
    → frame + 2 ^ order ≤ frames → ¬ MeetsRanges ranges frame order → HasSlotFor frame order s
