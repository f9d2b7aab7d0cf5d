-- How much is free: what was read of the entries of the children, and what the words say of frames.
use Rattle.std.specs.Prelude.{◌≡◌, ℕ, zero, suc, ◌*◌, ◌/◌, ◌^◌, ◌<◌, ◌≤◌, List, Option, None, Some, nat_eq, min, if◌then◌else◌}
use Rattle.std.specs.List.{sum_by, range_with_len}
use Rattle.frame_words.specs.Geometry.{child_frames, huge_order}
use Rattle.frame_words.specs.Words.{free_in, lane_in}
use Rattle.frame_model.specs.declared.block.FrameBlock.{FrameBlock}
use Rattle.frame_model.specs.declared.key.Key.{Key}
use Rattle.frame_model.specs.declared.view.View.{View}
use Rattle.frame_model.specs.Holding.{holders}
use Rattle.frame_core.specs.Mover.{Mover, Keeps}
use Rattle.frame_model.specs.Report.{free_frames, clear_blocks}
use Rattle.frame_model.specs.Steps.{after_load}
use Rattle.frame_model.specs.Words.{entry_place, entry_word_count}
use Rattle.low_frames.specs.Alone.{FindsOf}
use Rattle.frame_table.specs.Seats.{reads_of}
use Rattle.core_frames.specs.declared.shared.allocator.Allocator.{Allocator}
use Rattle.core_frames.specs.declared.shared.allocator.Core.{Core}
use Rattle.core_frames.specs.Cores.{memory_of, seat_of}
use Rattle.core_frames.specs.declared.free_counts.FreeCounts.{FreeCounts}

-- the free frames that the entry of a child counts in a word
abbrev pub free_at : ℕ → ℕ → ℕ
free_at word child = free_in (lane_in word child)

-- 1 where an entry shows its child free as a whole
unfoldable pub is_whole : ℕ → ℕ
is_whole entry = if nat_eq entry child_frames then 1 else 0

-- the same of the entry of a child in a word
abbrev pub shows_whole : ℕ → ℕ → ℕ
shows_whole word child = is_whole (lane_in word child)

-- the word that was read, or 0, in which no frame is free
unfoldable pub word_read : Option ℕ → ℕ
word_read None = 0
word_read (Some word) = word

-- what was last read of the word of a child's entry
abbrev pub entry_read : (ℕ → Option ℕ) → ℕ → ℕ
entry_read read child = word_read (read (entry_place child))

-- the free frames that the entries of the children from 0 up to one count, by what was last read
abbrev pub frames_read : (ℕ → Option ℕ) → ℕ → ℕ
frames_read read children =
    sum_by (λ child. free_at (entry_read read child) child) (range_with_len 0 children)

-- how many of these children are free as a whole, by what was last read
abbrev pub huge_read : (ℕ → Option ℕ) → ℕ → ℕ
huge_read read children =
    sum_by (λ child. shows_whole (entry_read read child) child) (range_with_len 0 children)

-- the counts are the sums over what was last read of each entry
pub record AreAsRead (key : Key) (read : ℕ → Option ℕ) (counts : FreeCounts) : Type 0 where
  pub each : (child : ℕ) → child < key.children
      → (word : ℕ) × (read (entry_place child) ≡ Some word)
  pub frames : counts.frames ≡ frames_read read key.children
  pub huge : counts.huge ≡ huge_read read key.children

-- the counts are those of the frames, and of the children, of which nothing is held: no frame that is
-- counted lies past the end, nor outside those that are
pub record AreExact (key : Key) (counts : FreeCounts) (words : List ℕ) : Type 0 where
  pub frames : counts.frames ≡ free_frames key words
  pub huge : counts.huge ≡ clear_blocks key words huge_order
  pub inside : counts.frames ≤ key.frames
  pub fewer : child_frames * counts.huge ≤ counts.frames

-- the view after so many loads
abbrev pub after_loads : (ℕ → ℕ) → ℕ → View → View
after_loads t zero v = v
after_loads t (suc n) v = after_load t (after_loads t n v)

-- each word of entries was loaded, no word has changed, and the counts are as was read; where nobody
-- else steps they are exact
pub record LooksOver {T H : Type 0} (t : ℕ → ℕ) (counts : FreeCounts) (old new : Mover T H)
    : Type 0 where
  pub keeps : Keeps old new
  pub missed : new.missed ≡ old.missed
  pub view : new.view ≡ after_loads t (entry_word_count old.key) old.view
  pub as_read : AreAsRead old.key new.read counts
  pub alone : old.is_alone → FindsOf (AreExact old.key counts) old.words new.words

-- how many frames the blocks have together
abbrev pub frames_together : List FrameBlock → ℕ
frames_together blocks = sum_by (λ b. 2 ^ b.order) blocks

-- how many frames of a child lie in the blocks
abbrev pub held_in : List FrameBlock → ℕ → ℕ
held_in blocks child =
    sum_by (λ frame. holders frame blocks) (range_with_len (child_frames * child) child_frames)

-- how many children have no frame in the blocks
abbrev pub clear_children : Key → List FrameBlock → ℕ
clear_children key blocks =
    sum_by (λ child. if nat_eq (held_in blocks child) 0 then 1 else 0) (range_with_len 0 key.children)

-- the counts are the sums over what the core last read of each entry, cut by the frames there are
pub record AreCountsOf (a : Allocator) (counts : FreeCounts) (c : Core) : Type 0 where
  pub frames : counts.frames ≡ min (frames_read (reads_of (seat_of c)) (memory_of a).children)
      (memory_of a).frames
  pub huge : counts.huge ≡ min (huge_read (reads_of (seat_of c)) (memory_of a).children)
      ((memory_of a).frames / child_frames)
