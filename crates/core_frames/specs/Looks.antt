-- Looks at just one block: is it free?
use Rattle.std.specs.Prelude.{◌≡◌, ℕ, ◌+◌, ◌*◌, ◌/◌, ◌%◌, ◌^◌, ◌<◌, ◌≤◌, List, Option, Some, Bool, true, MatchBool}
use Rattle.std.specs.Int.{bit_at}
use Rattle.frame_words.specs.Geometry.{child_frames, huge_order}
use Rattle.frame_words.specs.Words.{flag_in, lane_in}
use Rattle.frame_words.specs.Runs.{word_bits, child_words, IsClearRun}
use Rattle.frame_model.specs.declared.block.FrameBlock.{FrameBlock}
use Rattle.frame_model.specs.declared.key.Key.{Key}
use Rattle.frame_model.specs.declared.view.View.{View}
use Rattle.frame_model.specs.Key.{child_of}
use Rattle.frame_model.specs.View.{IsIdle}
use Rattle.frame_model.specs.Words.{entry_place, bits_place, bit_word_of}
use Rattle.frame_core.specs.Mover.{Mover, Keeps}
use Rattle.frame_table.specs.Seats.{reads_of}
use Rattle.low_frames.specs.Alone.{IsFreeIn, FindsOf}
use Rattle.core_frames.specs.declared.shared.allocator.Allocator.{Allocator}
use Rattle.core_frames.specs.declared.shared.allocator.Core.{Core}
use Rattle.core_frames.specs.Bounds.{most_to_look}
use Rattle.core_frames.specs.Cores.{memory_of, seat_of, view_in, moves_by, known_by, StepsAlone, KeepsHabit}
use Rattle.core_frames.specs.FreeCounts.{after_loads}
use Rattle.core_frames.specs.Places.{HasSuchBlock}
use Rattle.core_frames.specs.Uses.{IsSameAfter}

-- the memory has the block, and no frame of it is held
abbrev pub HasFree : Key → FrameBlock → List ℕ → Type 0
HasFree key b words = HasSuchBlock key b × IsFreeIn key words b

-- the answer says whether this holds of the words
abbrev pub TellsTruly : (List ℕ → Type 0) → Bool → List ℕ → Type 0
TellsTruly P answer words = MatchBool answer (P words) (¬ P words)

-- the answer says whether the memory has the block and no frame of it is held
abbrev pub TellsFree : Key → FrameBlock → Bool → List ℕ → Type 0
TellsFree key b answer words = TellsTruly (HasFree key b) answer words

-- so many bit words, from this one on, are clear
abbrev pub AreClearWords : Key → (first count : ℕ) → List ℕ → Type 0
AreClearWords key first count words =
    (w : ℕ) → first ≤ w → w < first + count → bit_word_of key words w ≡ 0

-- the bits of 2 ^ order frames of one bit word, from this frame on, are clear
abbrev pub IsClearAt : Key → (frame order : ℕ) → List ℕ → Type 0
IsClearAt key frame order words = IsClearRun (bit_word_of key words (frame / word_bits)) order (frame % word_bits)

-- at most so many words were loaded, and nothing else was done
abbrev pub HasLoaded : (ℕ → ℕ) → ℕ → View → View → Type 0
HasLoaded t most v w = (n : ℕ) × ((n ≤ most) × (w ≡ after_loads t n v))

-- some words were loaded, and nothing else was done
abbrev pub HasLoadedSome : (ℕ → ℕ) → View → View → Type 0
HasLoadedSome t v w = (n : ℕ) × ((1 ≤ n) × (w ≡ after_loads t n v))

-- what was last read of the bit of each of n frames, from one on, is clear
abbrev pub AreReadClear : Key → (read : ℕ → Option ℕ) → (from n : ℕ) → Type 0
AreReadClear key read from n = (x : ℕ) → from ≤ x → x < from + n
    → (word : ℕ) × ((read (bits_place key (x / word_bits)) ≡ Some word) × (bit_at word (x % word_bits) ≡ 0))

-- what was last read of the entry of the block's child shows no huge frame, and where the block is the child all
-- of its frames free
abbrev pub IsEntryReadFree : (read : ℕ → Option ℕ) → FrameBlock → Type 0
IsEntryReadFree read b =
    (word : ℕ) × ((read (entry_place (child_of b.frame)) ≡ Some word)
    × ((flag_in (lane_in word (child_of b.frame)) ≡ 0)
    × (b.order ≡ huge_order → lane_in word (child_of b.frame) ≡ child_frames)))

-- what was last read shows the block free: of the entry of its child, and of its bits where it is not the child
pub record IsReadFree (key : Key) (read : ℕ → Option ℕ) (b : FrameBlock) : Type 0 where
  pub entry : IsEntryReadFree read b
  pub bits : b.order < huge_order → AreReadClear key read b.frame (2 ^ b.order)

-- the answer says whether what was last read shows the block free, which the memory has
abbrev pub TellsRead : Key → (read : ℕ → Option ℕ) → FrameBlock → Bool → Type 0
TellsRead key read b answer = MatchBool answer (IsReadFree key read b) (HasSuchBlock key b → ¬ IsReadFree key read b)

-- of each entry, what was read is as before
abbrev pub ReadsSameEntries : Key → (old new : ℕ → Option ℕ) → Type 0
ReadsSameEntries key old new = (c : ℕ) → c < key.children → new (entry_place c) ≡ old (entry_place c)

-- at most so many words were loaded, and none has changed; the answer says whether the bits of n frames were
-- read clear, and where nobody else steps whether this holds of the words
pub record Sees {T H : Type 0} (t : ℕ → ℕ) (most from n : ℕ) (P : List ℕ → Type 0) (answer : Bool)
    (old new : Mover T H) : Type 0 where
  pub keeps : Keeps old new
  pub missed : new.missed ≡ old.missed
  pub view : HasLoaded t most old.view new.view
  pub entries : ReadsSameEntries old.key old.read new.read
  pub seen : MatchBool answer (AreReadClear old.key new.read from n) (¬ AreReadClear old.key new.read from n)
  pub alone : old.is_alone → FindsOf (TellsTruly P answer) old.words new.words

-- nothing is in flight, and the memory has these bit words
pub record MaySeeWords {T H : Type 0} (first count : ℕ) (m : Mover T H) : Type 0 where
  pub idle : IsIdle m.view
  pub inside : first + count ≤ child_words * m.key.children

-- a look at the block: words were loaded where the memory has it, and none has changed; it is told free just
-- where the memory has it and what was read shows it free, and where nobody else steps just where it is free
pub record LooksAt {T H : Type 0} (t : ℕ → ℕ) (b : FrameBlock) (answer : Bool) (old new : Mover T H)
    : Type 0 where
  pub keeps : Keeps old new
  pub missed : new.missed ≡ old.missed
  pub view : HasLoaded t (most_to_look b.order) old.view new.view
  pub loaded : HasSuchBlock old.key b → HasLoadedSome t old.view new.view
  pub no_place : ¬ HasSuchBlock old.key b → new.view ≡ old.view
  pub has : answer ≡ true → HasSuchBlock old.key b
  pub seen : TellsRead old.key new.read b answer
  pub alone : old.is_alone → FindsOf (TellsFree old.key b answer) old.words new.words

-- the view is as before, but for at most so many moves more
abbrev pub IsSameWithin : ℕ → View → View → Type 0
IsSameWithin most v w = (n : ℕ) × ((n ≤ most) × IsSameAfter n v w)

-- a look at the block by a core, which is as before but for its moves, and makes none where the memory has no
-- such block: it is told free just where the memory has it and what the core read shows it free, and where nobody
-- else steps just where it is free
pub record LooksThrough (a : Allocator) (b : FrameBlock) (answer : Bool) (c d : Core) : Type 0 where
  pub view : IsSameWithin (most_to_look b.order) (view_in c) (view_in d)
  pub same_habit : KeepsHabit c d
  pub moved : HasSuchBlock (memory_of a) b → moves_by c < moves_by d
  pub no_place : ¬ HasSuchBlock (memory_of a) b → view_in d ≡ view_in c
  pub has : answer ≡ true → HasSuchBlock (memory_of a) b
  pub seen : TellsRead (memory_of a) (reads_of (seat_of d)) b answer
  pub alone : StepsAlone a c → FindsOf (TellsFree (memory_of a) b answer) (known_by c) (known_by d)
