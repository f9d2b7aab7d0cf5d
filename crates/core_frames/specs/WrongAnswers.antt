-- Answers that would be wrong: blocks past the end, images in which what is kept is free or lost, halves
-- that are none, and counts of more than there is.
use Rattle.std.specs.Prelude.{◌≡◌, ◌≢◌, ℕ, pos, ◌+◌, ◌*◌, ◌^◌, ◌+ℤ◌, ◌-ℤ◌, ◌<◌, ◌≤◌, List, Some, Contains}
use Rattle.frame_words.specs.Geometry.{child_frames}
use Rattle.frame_model.specs.declared.block.FrameBlock.{FrameBlock}
use Rattle.frame_model.specs.declared.key.Key.{Key}
use Rattle.frame_model.specs.declared.view.Eye.{Eye}
use Rattle.frame_model.specs.Block.{covers}
use Rattle.frame_model.specs.Events.{State, Has, Fits}
use Rattle.frame_model.specs.Holding.{holders}
use Rattle.frame_model.specs.Openings.{held_blocks}
use Rattle.frame_model.specs.Rebuilt.{IsRebuilt}
use Rattle.frame_core.specs.Image.{Contents, key_in}
use Rattle.frame_model.specs.Report.{held_at}
use Rattle.frame_table.specs.Closing.{kept_through, IsClosingOf}
use Rattle.frame_table.specs.Openings.{unsealed_key, IsLeft}
use Rattle.frame_table.specs.Seats.{block_in, view_of, reads_of}
use Rattle.frame_table.specs.Stopping.{IsImageAtStop}
use Rattle.frame_table.specs.declared.block.Block.{Block}
use Rattle.frame_table.specs.declared.seats.CoreSeat.{CoreSeat}
use Rattle.core_frames.specs.declared.shared.allocator.Allocator.{Allocator}
use Rattle.core_frames.specs.declared.shared.allocator.Core.{Core}
use Rattle.core_frames.specs.declared.free_counts.FreeCounts.{FreeCounts}
use Rattle.core_frames.specs.Cores.{memory_of, seat_of, lent_by, known_by, StepsAlone, KeepsHabit, IsOutOf}
use Rattle.core_frames.specs.FreeCounts.{frames_read, huge_read, AreCountsOf}
use Rattle.core_frames.specs.Joins.{AreBuddies}
use Rattle.core_frames.specs.Uses.{HasTaken, HasSplit, HasJoined, LendsAsMany}

-- no take answers a block that ends past the memory
abbrev pub TakenPastTheEnd : Type 0
TakenPastTheEnd = (a : Allocator) (n : ℕ) (b : Block) (c d : Core)
    → (memory_of a).frames < (block_in b).frame + 2 ^ (block_in b).order → ¬ HasTaken a n b c d

-- no core that steps alone and knows the words takes a block of which a frame is held
abbrev pub TakenWasHeld : Type 0
TakenWasHeld = (a : Allocator) (n : ℕ) (b : Block) (c d : Core) (words : List ℕ) (x : ℕ)
    → StepsAlone a c → known_by c ≡ Some words → covers (block_in b) x ≡ 1 → held_at (memory_of a) words x ≢ 0
    → ¬ HasTaken a n b c d

-- no image of a closing has a frame clear that one of the seats keeps
abbrev pub KeptIsClearAtClosing : Type 0
KeptIsClearAtClosing = (key : Key) (seats : List CoreSeat) (image : Contents) (b : FrameBlock) (x : ℕ)
    → Contains (kept_through seats) b → covers b x ≡ 1 → held_at key image.words x ≢ 1
    → ¬ IsClosingOf key seats image

-- in no image of a closing do two blocks that the seats keep share a frame
abbrev pub KeptOverlapAtClosing : Type 0
KeptOverlapAtClosing = (key : Key) (seats : List CoreSeat) (image : Contents) (x : ℕ)
    → 1 < holders x (kept_through seats) → ¬ IsClosingOf key seats image

-- no image of a stop has a frame clear that the last seat keeps
abbrev pub KeptIsClearAtStop : Type 0
KeptIsClearAtStop = (key : Key) (last : CoreSeat) (image : Contents) (b : FrameBlock) (x : ℕ)
    → Contains (view_of last).kept b → covers b x ≡ 1 → held_at key image.words x ≢ 1
    → ¬ IsImageAtStop key last image

-- in no image of a stop do two blocks that the last seat keeps share a frame
abbrev pub KeptOverlapAtStop : Type 0
KeptOverlapAtStop = (key : Key) (last : CoreSeat) (image : Contents) (x : ℕ)
    → 1 < holders x (view_of last).kept → ¬ IsImageAtStop key last image

-- once an image is rebuilt, the block cannot be adopted
abbrev pub IsLostOnceRebuilt : Contents → FrameBlock → Type 0
IsLostOnceRebuilt image b = (words : List ℕ) × (IsRebuilt (key_in image) image.words words
    × ¬ IsLeft (unsealed_key image.geometry) (held_blocks (unsealed_key image.geometry) words) b)

-- no image of a closing loses a block that one of the seats keeps
abbrev pub KeptIsLostAtClosing : Type 0
KeptIsLostAtClosing = (key : Key) (seats : List CoreSeat) (image : Contents) (b : FrameBlock)
    → Contains (kept_through seats) b → IsLostOnceRebuilt image b → ¬ IsClosingOf key seats image

-- no image of a stop loses a block that the last seat keeps
abbrev pub KeptIsLostAtStop : Type 0
KeptIsLostAtStop = (key : Key) (last : CoreSeat) (image : Contents) (b : FrameBlock)
    → Contains (view_of last).kept b → IsLostOnceRebuilt image b → ¬ IsImageAtStop key last image

-- no image of a stop has words that fit no views among which the last seat's is
abbrev pub SeatIsElsewhere : Type 0
SeatIsElsewhere = (key : Key) (last : CoreSeat) (image : Contents)
    → ((s : State) (id : ℕ) (e : Eye) → s.words ≡ image.words → Fits key key.cores s → Has s id e
    → e.view ≢ view_of last)
    → ¬ IsImageAtStop key last image

-- no split answers what begins elsewhere than the block or than behind its lower half, is of another order
-- than one less, or is not out; and none lends otherwise than one block more
abbrev pub SplitIsWrong : Type 0
SplitIsWrong = (a : Allocator) (b first second : Block) (c d : Core)
    → ((block_in first).frame ≢ (block_in b).frame → ¬ HasSplit a b first second c d)
    × ((block_in second).frame ≢ (block_in b).frame + 2 ^ (block_in first).order
    → ¬ HasSplit a b first second c d)
    × ((block_in first).order + 1 ≢ (block_in b).order → ¬ HasSplit a b first second c d)
    × ((block_in second).order + 1 ≢ (block_in b).order → ¬ HasSplit a b first second c d)
    × (¬ IsOutOf a first → ¬ HasSplit a b first second c d)
    × (¬ IsOutOf a second → ¬ HasSplit a b first second c d)
    × (lent_by d ≢ lent_by c +ℤ pos 1 → ¬ HasSplit a b first second c d)

-- no join answers what begins elsewhere than the lower block, is of another order than one more, or is not
-- out, or joins what is not side by side; and none lends otherwise than one block less
abbrev pub JoinIsWrong : Type 0
JoinIsWrong = (a : Allocator) (lower upper b : Block) (c d : Core)
    → ((block_in b).frame ≢ (block_in lower).frame → ¬ HasJoined a lower upper b c d)
    × ((block_in b).order ≢ (block_in lower).order + 1 → ¬ HasJoined a lower upper b c d)
    × ((block_in upper).frame ≢ (block_in lower).frame + 2 ^ (block_in lower).order
    → ¬ HasJoined a lower upper b c d)
    × (¬ AreBuddies (block_in lower) (block_in upper) → ¬ HasJoined a lower upper b c d)
    × (¬ IsOutOf a b → ¬ HasJoined a lower upper b c d)
    × (lent_by d ≢ lent_by c -ℤ pos 1 → ¬ HasJoined a lower upper b c d)

-- no count is above what was read, or above the frames that there are; and none is below both
abbrev pub CountIsWrong : Type 0
CountIsWrong = (a : Allocator) (counts : FreeCounts) (c : Core)
    → (frames_read (reads_of (seat_of c)) (memory_of a).children < counts.frames
    → ¬ AreCountsOf a counts c)
    × ((memory_of a).frames < counts.frames → ¬ AreCountsOf a counts c)
    × (counts.frames < frames_read (reads_of (seat_of c)) (memory_of a).children
    → counts.frames < (memory_of a).frames → ¬ AreCountsOf a counts c)
    × (huge_read (reads_of (seat_of c)) (memory_of a).children < counts.huge
    → ¬ AreCountsOf a counts c)
    × ((memory_of a).frames < child_frames * counts.huge → ¬ AreCountsOf a counts c)
    × (counts.huge < huge_read (reads_of (seat_of c)) (memory_of a).children
    → child_frames * counts.huge + child_frames ≤ (memory_of a).frames → ¬ AreCountsOf a counts c)

-- no call at a desk lends more or fewer blocks
abbrev pub DeskLends : Type 0
DeskLends = (most : ℕ) (c d : Core) → lent_by d ≢ lent_by c → ¬ LendsAsMany most c d

-- no call that keeps what a core remembers of its gives leaves another memory of them
abbrev pub HabitIsAnother : Type 0
HabitIsAnother = (c d : Core) → d.habit ≢ c.habit → ¬ KeepsHabit c d
