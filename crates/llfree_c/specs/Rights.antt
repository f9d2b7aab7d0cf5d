-- The right to a block, as C carries it.
use base.Fml.{Fml}
use Rattle.std.specs.Prelude.{◌≡◌, ℕ, List, [], ◌∷◌, Option, None}
use Rattle.frame_model.specs.Block.{block}
use Rattle.frame_table.specs.Rule.{watch}
use Rattle.frame_model.specs.View.{holder}
use Rattle.frame_table.specs.contracts.rule.Watch.{the_row}
use Rattle.frame_model.specs.declared.block.FrameBlock.{FrameBlock}
use Rattle.frame_model.specs.declared.key.Key.{Key}
use Rattle.frame_table.specs.declared.rule.Watch.{Watch}
use Rattle.atomic_table.specs.Seated.{badge_owns}
use Rattle.atomic_table.specs.declared.badge.Badge.{Badge}

-- what a right owns of its table; nothing, where there is none
abbrev pub right_owned : Badge Watch → Fml
right_owned b = badge_owns the_row.coded.code b.table_id b.id b.views

-- the memory that a right is about, one zone's
abbrev pub memory_in : List Watch → Option Key
memory_in [] = None
memory_in (e ∷ es) = e.view.about

-- the first frame of the first of some blocks
abbrev pub first_frame : List FrameBlock → ℕ
first_frame [] = 0
first_frame (b ∷ bs) = b.frame

-- the first frame of the block that a right owns, counted from the first frame of its zone
abbrev pub local_in : List Watch → ℕ
local_in [] = 0
local_in (e ∷ es) = first_frame e.view.own

-- there is a right, and it owns exactly one block of the order
abbrev pub IsRightTo : (order : ℕ) → List Watch → Type 0
IsRightTo order views = views ≡ watch (holder (memory_in views) (block (local_in views) order)) [] None ∷ []
