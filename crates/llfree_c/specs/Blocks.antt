-- What C carries of blocks, and what takes, gives and splits of it leave.
use Rattle.std.specs.Prelude.{◌≡◌, ℕ, ◌+◌, ◌-◌, ◌^◌, [], ◌∷◌, true, Option, Some, None}
use Rattle.atomic_table.specs.declared.shared.Seat.{Seat}
use Rattle.frame_table.specs.declared.rule.Watch.{Watch}
use Rattle.frame_zones.specs.declared.block.ZoneBlock.{ZoneBlock}
use Rattle.zone_slots.specs.Blocks.{IsRightThrough, frame_for}
use Rattle.zone_slots.specs.Calls.{zones_of}
use Rattle.zone_slots.specs.Uses.{TakesByNumber, SplitsByNumber}
use Rattle.zone_slots.specs.declared.core_state.CoreState.{CoreState}
use Rattle.llfree_c.specs.declared.block_handle.BlockHandle.{BlockHandle}

-- the block of the order that begins at the frame of this number is carried, and this seat was its right
pub record Carries (h : BlockHandle) (number n : ℕ) (seat : Seat (Unit {0}) Watch) : Type 0 where
  pub live : h.live ≡ true
  pub frame : h.frame ≡ number
  pub order : h.order ≡ n
  pub table : h.right.badge.table_id ≡ seat.table_id
  pub views : h.right.badge.views ≡ seat.me.0 ∷ []
  pub bare : seat.me.1 ≡ []

-- the block that is carried is one of the zones of the core, and was handed out there: what C carries is the right
-- to it
pub record IsOutOfOne (s : CoreState) (h : BlockHandle) : Type 0 where
  pub eye : Watch
  pub views : h.right.badge.views ≡ eye ∷ []
  pub right : IsRightThrough s h.frame h.order h.right.badge.table_id (eye, [])

-- the struct carries this block of the zones of the core, by its number over all zones
pub record IsCarriedFor (s : CoreState) (b : ZoneBlock) (h : BlockHandle) : Type 0 where
  pub live : h.live ≡ true
  pub frame : h.frame ≡ frame_for s b
  pub order : h.order ≡ b.block.order
  pub out : IsOutOfOne s h

-- what is carried, if a block is, was handed out by a zone of the core
abbrev pub IsEmptyOrOut : CoreState → BlockHandle → Type 0
IsEmptyOrOut s h = h.live ≡ true → IsOutOfOne s h

-- the same of the core behind a handle, if one is
abbrev pub IsOfTheAllocator : Option CoreState → BlockHandle → Type 0
IsOfTheAllocator (Some s) h = IsEmptyOrOut s h
IsOfTheAllocator None h = Unit

-- a block of the order was taken through the core, and is carried
pub record TakesHeld (n : ℕ) (h : BlockHandle) (s t : CoreState) : Type 0 where
  pub live : h.live ≡ true
  pub order : h.order ≡ n
  pub out : IsOutOfOne s h
  pub taken : TakesByNumber (zones_of s) n h.frame s.core t.core

-- the block that was carried was split through the core, and its halves are carried
pub record SplitsHeld (h lower upper : BlockHandle) (s t : CoreState) : Type 0 where
  pub live : (lower.live ≡ true) × (upper.live ≡ true)
  pub orders : (lower.order ≡ h.order - 1) × (upper.order ≡ h.order - 1)
  pub frames : (lower.frame ≡ h.frame) × (upper.frame ≡ h.frame + 2 ^ (h.order - 1))
  pub out : IsOutOfOne s lower × IsOutOfOne s upper
  pub split : SplitsByNumber (zones_of s) h.order h.frame s.core t.core
