-- Images that would be wrong: no stop leaves such numbers.
use Rattle.std.specs.Prelude.{◌≡◌, ◌↔◌, ℕ, ◌+◌, ◌*◌, ◌<◌, List, slice_index, true}
use Rattle.std.specs.List.{sum_by, range_with_len}
use Rattle.frame_words.specs.Geometry.{child_frames}
use Rattle.frame_words.specs.Words.{free_in}
use Rattle.frame_model.specs.declared.block.FrameBlock.{FrameBlock}
use Rattle.frame_model.specs.declared.key.Key.{Key}
use Rattle.frame_model.specs.Events.{State, views_of, Fits}
use Rattle.frame_model.specs.Holding.{holders, IsHeld}
use Rattle.frame_model.specs.Key.{frame_count, is_boot_frame}
use Rattle.frame_model.specs.Laws.{holding_of}
use Rattle.frame_model.specs.Stops.{IsExact}
use Rattle.core_frames.specs.Cores.{memory_of}
use Rattle.core_frames.specs.declared.shared.allocator.Allocator.{Allocator}
use Rattle.frame_slots.specs.Numbers.{entry_in, IsHeldBy}
use Rattle.frame_zones.specs.Zones.{zone_count, zone_at}
use Rattle.frame_zones.specs.declared.zones.Zones.{Zones}
use Rattle.zone_slots.specs.Calls.{zones_of}
use Rattle.zone_slots.specs.ImageParts.{numbers_from}
use Rattle.zone_slots.specs.declared.core_state.CoreState.{CoreState}
use Rattle.llfree_c.specs.CoreImages.{LeavesStop, StopsCore}
use Rattle.llfree_c.specs.Images.{SaysAll}

-- how many frames of a child lie in these blocks
abbrev pub held_in_child : List FrameBlock → ℕ → ℕ
held_in_child blocks c = sum_by (λ x. holders x blocks) (range_with_len (child_frames * c) child_frames)

-- the numbers hold just the frames of these blocks, and each child counts the others as free
pub record IsImageOfBlocks (key : Key) (numbers : List ℕ) (blocks : List FrameBlock) : Type 0 where
  pub held : (x : ℕ) → x < frame_count key → IsHeldBy numbers x ↔ IsHeld blocks x
  pub free : (c : ℕ) → c < key.children → free_in (entry_in numbers c) + held_in_child blocks c ≡ child_frames

-- no image is left that is of the blocks of no state whose words and views agree
abbrev pub ImageIsOfNoState : Type 0
ImageIsOfNoState = (key : Key) (numbers : List ℕ)
    → ((s : State) → Fits key key.cores s → ¬ IsImageOfBlocks key numbers (holding_of key (views_of s)))
    → ¬ LeavesStop key numbers

-- no image of a sealed memory is left in which a frame is clear that nobody is ever given
abbrev pub BootFrameIsClearInImage : Type 0
BootFrameIsClearInImage = (key : Key) (numbers : List ℕ) (x : ℕ)
    → key.sealed ≡ true → x < frame_count key → is_boot_frame key x ≡ true → ¬ IsHeldBy numbers x
    → ¬ LeavesStop key numbers

-- no image is left that says only words with a counter that is off
abbrev pub CountersAreOff : Type 0
CountersAreOff = (key : Key) (numbers : List ℕ)
    → ((words : List ℕ) → SaysAll key words numbers → ¬ IsExact key words) → ¬ LeavesStop key numbers

-- at the place of this zone the numbers are those that others have from another zone's place on
abbrev pub HasNumbersOf : Zones → (zone another : ℕ) → (numbers others : List ℕ) → Type 0
HasNumbersOf zs zone another numbers others = (a : Allocator) (i : ℕ)
    → i < 9 * (memory_of (zone_at zs zone a)).children
    → slice_index (numbers_from zs numbers zone) i ≡ slice_index (numbers_from zs others another) i

-- no image of all zones is left that has at the place of a zone the numbers of another zone, where these are none
-- of an image of the zone
abbrev pub ZoneStandsAtAnothersPlace : Type 0
ZoneStandsAtAnothersPlace = (s : CoreState) (numbers others : List ℕ) (zone another : ℕ)
    → zone < zone_count (zones_of s) → HasNumbersOf (zones_of s) zone another numbers others
    → ((a : Allocator)
    → ¬ LeavesStop (memory_of (zone_at (zones_of s) zone a)) (numbers_from (zones_of s) others another))
    → ¬ StopsCore s numbers
