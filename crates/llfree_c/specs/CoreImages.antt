-- The image that the last core of an allocator leaves.
use Rattle.std.specs.Prelude.{◌≡◌, ◌⊎◌, ℕ, ◌+◌, ◌*◌, ◌<◌, List, Option, Some, None, true, length, drop, take, slice_index, slice_index_or}
use Rattle.std.specs.List.{All, sum_by}
use Rattle.frame_words.specs.Words.{entry_word}
use Rattle.frame_model.specs.declared.key.Key.{Key}
use Rattle.frame_model.specs.declared.view.Eye.{Eye}
use Rattle.frame_model.specs.Events.{State, views_of, Has, Fits}
use Rattle.frame_core.specs.Image.{Contents, key_in}
use Rattle.frame_model.specs.Laws.{holding_of}
use Rattle.frame_model.specs.Rebuilt.{rebuilt_free, rebuilt_bits, IsRebuilt}
use Rattle.frame_model.specs.Stops.{IsExact}
use Rattle.frame_model.specs.Words.{huge_of}
use Rattle.frame_table.specs.Closing.{IsHeldIn}
use Rattle.frame_table.specs.Seats.{view_of}
use Rattle.frame_table.specs.Stopping.{HoldsFramesOf, HoldsBootFrames}
use Rattle.frame_table.specs.declared.seats.CoreSeat.{CoreSeat}
use Rattle.core_frames.specs.Cores.{memory_of, seat_of}
use Rattle.core_frames.specs.declared.shared.allocator.Allocator.{Allocator}
use Rattle.core_frames.specs.declared.shared.allocator.Core.{Core}
use Rattle.frame_zones.specs.Zones.{zone_count, zone_at, core_at}
use Rattle.frame_zones.specs.declared.image.ZoneImage.{ZoneImage}
use Rattle.frame_zones.specs.declared.zones.Zones.{Zones}
use Rattle.frame_zones.specs.declared.zones.ZoneCore.{ZoneCore}
use Rattle.zone_slots.specs.Calls.{zones_of, image_numbers_by}
use Rattle.zone_slots.specs.FrameCalls.{HasGivenRest}
use Rattle.zone_slots.specs.ImageParts.{numbers_from}
use Rattle.zone_slots.specs.declared.core_state.CoreState.{CoreState}
use Rattle.llfree_c.specs.Images.{SaysAll}
use Rattle.llfree_c.specs.Status.{closed, no_memory, no_room, cores_open}

-- the numbers say of a child what these words will once they are rebuilt
pub record SaysOfRebuilt (key : Key) (words : List ℕ) (c : ℕ) (numbers : List ℕ) : Type 0 where
  pub entry : slice_index numbers (9 * c) ≡ entry_word (rebuilt_free key words c) (huge_of words c)
  pub bits : (w : ℕ) → w < 8
      → slice_index numbers (9 * c + 1 + w) ≡ rebuilt_bits key words (8 * c + w)

-- the numbers say of each child what these words will once they are rebuilt
abbrev pub SaysRebuilt : Key → List ℕ → List ℕ → Type 0
SaysRebuilt key words numbers = (c : ℕ) → c < key.children → SaysOfRebuilt key words c numbers

-- the numbers say of each child what the words of this image will once they are rebuilt
abbrev pub SaysImage : Contents → List ℕ → Type 0
SaysImage image numbers = SaysRebuilt (key_in image) image.words numbers

-- how many numbers images have together before those of one of them: nine for each child
abbrev pub numbers_ahead : List ZoneImage → ℕ → ℕ
numbers_ahead images z = 9 * sum_by (λ i. i.image.geometry.children) (take z images)

-- the numbers say so of each of these images, of one behind the other
abbrev pub SaysEach : List ZoneImage → List ℕ → Type 0
SaysEach images numbers = (z : ℕ) (i : ZoneImage) → z < length images
    → SaysImage (slice_index_or images z i).image (drop (numbers_ahead images z) numbers)

-- the numbers are those of the memory's words at a stop, rebuilt: each counter is exact, and just the
-- frames of all blocks that were held are held, with those that nobody is ever given
pub record LeavesStop (key : Key) (numbers : List ℕ) : Type 0 where
  pub state : State
  pub fits : Fits key key.cores state
  pub words : List ℕ
  pub rebuilt : IsRebuilt key state.words words
  pub says : SaysAll key words numbers
  pub exact : IsExact key words
  pub held : HoldsFramesOf key words (holding_of key (views_of state))
  pub boot : key.sealed ≡ true → HoldsBootFrames key words

-- the same at a stop with this seat: one of the views that the words fit is the seat's own, and what it
-- keeps is held
pub record LeavesStopWith (key : Key) (last : CoreSeat) (numbers : List ℕ) : Type 0 where
  pub stop : LeavesStop key numbers
  pub id : ℕ
  pub eye : Eye
  pub at : Has stop.state id eye
  pub seat : eye.view ≡ view_of last
  pub kept_held : All (IsHeldIn key stop.words) (view_of last).kept

-- the numbers from those of this zone on are those of an image of it, at a stop with the core's own seat there
abbrev pub StopsZone : Zones → ZoneCore → List ℕ → ℕ → Type 0
StopsZone zs c numbers z = (a : Allocator) (x : Core)
    → LeavesStopWith (memory_of (zone_at zs z a)) (seat_of (core_at c z x)) (numbers_from zs numbers z)

-- these are the numbers of an image of the core's memory, once all that rested with it has gone back: it is so of
-- each zone
pub record StopsCore (s : CoreState) (numbers : List ℕ) : Type 0 where
  pub core : ZoneCore
  pub rest : HasGivenRest s core
  pub zones : (z : ℕ) → z < zone_count (zones_of s) → StopsZone (zones_of s) core numbers z

-- how many numbers an image has of the memory of the core behind a handle, or 0
abbrev pub image_numbers_behind : Option CoreState → ℕ
image_numbers_behind (Some s) = image_numbers_by s
image_numbers_behind None = 0

-- why a core left no image in so much room: it has more numbers, memory was wanting, or other cores
-- were open
abbrev pub HasNoStop : CoreState → (room status : ℕ) → Type 0
HasNoStop s room status =
    ((status ≡ no_room) × (room < image_numbers_by s))
    ⊎ (status ≡ no_memory) ⊎ (status ≡ cores_open)

-- the core behind a handle left an image
abbrev pub LeavesCoreImage : Option CoreState → List ℕ → Type 0
LeavesCoreImage (Some s) numbers = StopsCore s numbers
LeavesCoreImage None numbers = ⊥

-- why none was left of what is behind a handle: nothing is, or as above
abbrev pub LeavesNoCoreImage : Option CoreState → (room status : ℕ) → Type 0
LeavesNoCoreImage (Some s) room status = HasNoStop s room status
LeavesNoCoreImage None room status = status ≡ closed
