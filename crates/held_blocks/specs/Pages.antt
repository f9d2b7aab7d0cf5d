-- The lists of a table of pages. No public clause cites this module.
use Rattle.std.specs.Prelude.{ℕ, ◌≡◌, ◌<◌, List, Option, Some, None, slice_index_or}
use Rattle.held_blocks.specs.declared.slot_page.SlotPage.{SlotPage}

-- the page of a child, if it has one
abbrev pub page_in : List (Option SlotPage) → ℕ → Option SlotPage
page_in pages child = slice_index_or pages child None

-- how many blocks begin in the child of a page
abbrev pub blocks_in : Option SlotPage → ℕ
blocks_in None = 0
blocks_in (Some page) = page.blocks

-- a block begins in each child that has a page
abbrev pub EachIsNeeded : List (Option SlotPage) → Type 0
EachIsNeeded pages = (child : ℕ) (page : SlotPage) → page_in pages child ≡ Some page → 0 < page.blocks

-- the slot that stands in a page
abbrev pub slot_in : Option SlotPage → ℕ → ℕ
slot_in None place = 0
slot_in (Some page) place = slice_index_or page.slots.items place 0
