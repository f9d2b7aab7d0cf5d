-- What a table from frames to slots says. No public clause cites this module.
use Rattle.std.specs.Prelude.{ℕ, ◌/◌, ◌%◌, ◌≡◌, ◌<◌, ◌≤◌, List, Option, length, nat_eq}
use Rattle.std.specs.Prelude.{if◌then◌else◌}
use Rattle.std.specs.List.{sum_by}
use Rattle.frame_words.specs.Geometry.{child_frames, most_children}
use Rattle.held_blocks.specs.Pages.{page_in, blocks_in, slot_in}
use Rattle.held_blocks.specs.declared.labelled_block.LabelledBlock.{LabelledBlock}
use Rattle.held_blocks.specs.declared.slot_page.SlotPage.{SlotPage}
use Rattle.held_blocks.specs.declared.slot_pages.SlotPages.{SlotPages}

-- the page of the child of a frame
abbrev pub page_of : SlotPages → ℕ → Option SlotPage
page_of table frame = page_in table.pages.items (frame / child_frames)

-- how many blocks the table counts in the child of a frame
abbrev pub counted_at : SlotPages → ℕ → ℕ
counted_at table frame = blocks_in (page_of table frame)

-- the child of the frame has a page
abbrev pub HasPage : SlotPages → ℕ → Type 0
HasPage table frame = 0 < counted_at table frame

-- there is a page that no child has, and a directory of all children
abbrev pub HasSpare : SlotPages → Type 0
HasSpare table = (most_children ≤ length table.pages.items) × (0 < length table.spares.items)

-- the slot that stands at a frame
abbrev pub slot_at : SlotPages → ℕ → ℕ
slot_at table frame = slot_in (page_of table frame) (frame % child_frames)

-- 1 where the frames are of one child, else 0
unfoldable pub in_one_child : ℕ → ℕ → ℕ
in_one_child here frame = if nat_eq (here / child_frames) (frame / child_frames) then 1 else 0

-- how many of the entries begin in the child of a frame
abbrev pub number_in : List LabelledBlock → ℕ → ℕ
number_in entries frame = sum_by (λ e. in_one_child e.block.frame frame) entries

-- the table counts the entries of each child
abbrev pub CountsEachChild : SlotPages → List LabelledBlock → Type 0
CountsEachChild table entries = (frame : ℕ) → counted_at table frame ≡ number_in entries frame

-- the frames that have pages keep them, and what stands there
pub record KeepsSlots (old new : SlotPages) : Type 0 where
  pub pages : (f : ℕ) → HasPage old f → HasPage new f
  pub slots : (f : ℕ) → HasPage old f → slot_at new f ≡ slot_at old f

-- as many blocks are counted in each child, and a spare page stays
pub record KeepsPages (old new : SlotPages) : Type 0 where
  pub numbers : (f : ℕ) → counted_at new f ≡ counted_at old f
  pub spare : HasSpare old → HasSpare new
