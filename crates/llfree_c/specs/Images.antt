-- The numbers that an image is kept as.
use Rattle.std.specs.Prelude.{◌≡◌, ◌⊎◌, ℕ, ◌+◌, ◌*◌, ◌/◌, ◌<◌, ◌≤◌, List, Option, Some, None, length, option_map, slice_index}
use Rattle.frame_words.specs.Words.{entry_word}
use Rattle.frame_model.specs.declared.key.Key.{Key}
use Rattle.frame_model.specs.Words.{free_of, huge_of, bit_word_of}
use Rattle.frame_model.specs.Laws.{AddsUp}
use Rattle.core_frames.specs.PlainState.{PlainState, memory_by, held_by, HoldsExactly}
use Rattle.llfree_c.specs.declared.plain.Plain.{Plain}
use Rattle.llfree_c.specs.Status.{closed, no_memory, no_room}

-- how many numbers the image of so many frames has: nine for each child
abbrev pub image_words : ℕ → ℕ
image_words frames = 9 * ((frames + 511) / 512)

-- the numbers say of a child what the words do: first its free frames and whether it is a huge frame,
-- then its bits, of which each is set where its frame is held by itself
pub record SaysOfChild (key : Key) (words : List ℕ) (c : ℕ) (numbers : List ℕ) : Type 0 where
  pub entry : slice_index numbers (9 * c) ≡ entry_word (free_of words c) (huge_of words c)
  pub bits : (w : ℕ) → w < 8
      → slice_index numbers (9 * c + 1 + w) ≡ bit_word_of key words (8 * c + w)

-- the numbers say of each child what the words do
abbrev pub SaysAll : Key → List ℕ → List ℕ → Type 0
SaysAll key words numbers = (c : ℕ) → c < key.children → SaysOfChild key words c numbers

-- numbers from this one on are as before, and as many as before
pub record StaysBehind (first : ℕ) (old new : List ℕ) : Type 0 where
  pub count : length new ≡ length old
  pub same : (i : ℕ) → first ≤ i → i < length old → slice_index new i ≡ slice_index old i

-- the numbers are those of words that hold exactly what the memory does, and whose counters add up
pub record LeavesNumbers (state : PlainState) (numbers : List ℕ) : Type 0 where
  pub words : List ℕ
  pub says : SaysAll (memory_by state) words numbers
  pub exact : HoldsExactly (memory_by state) words (held_by state)
  pub counters : AddsUp (memory_by state) words

-- the memory behind a handle, if one is
abbrev pub memory_behind : Option Plain → Option PlainState
memory_behind value = option_map (λ p. p.allocator) value

-- a memory is behind the handle, and these are the numbers of its image
abbrev pub LeavesImage : Option Plain → List ℕ → Type 0
LeavesImage (Some p) numbers = LeavesNumbers p.allocator numbers
LeavesImage None numbers = ⊥

-- why no image of a memory was written in so much room: it has more numbers, or memory was wanting
abbrev pub HasNoImage : PlainState → (room status : ℕ) → Type 0
HasNoImage state room status =
    ((status ≡ no_room) × (room < image_words state.geometry.frames)) ⊎ (status ≡ no_memory)

-- why no image was written of what is behind a handle: nothing is, or as above
abbrev pub IsUnwritten : Option Plain → (room status : ℕ) → Type 0
IsUnwritten (Some p) room status = HasNoImage p.allocator room status
IsUnwritten None room status = status ≡ closed
