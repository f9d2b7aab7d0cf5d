-- How much is free, in all zones and in one, by what their cores read.
use Rattle.std.specs.Prelude.{◌≡◌, ℕ, ◌+◌, ◌/◌, ◌≤◌, List, min}
use Rattle.std.specs.List.{sum_by, range_with_len}
use Rattle.frame_words.specs.Geometry.{child_frames, huge_order}
use Rattle.frame_model.specs.declared.key.Key.{Key}
use Rattle.frame_model.specs.Report.{clear_blocks}
use Rattle.frame_model.specs.Words.{entry_word_count}
use Rattle.frame_table.specs.Seats.{reads_of}
use Rattle.low_frames.specs.Alone.{FindsOf}
use Rattle.core_frames.specs.declared.shared.allocator.Allocator.{Allocator}
use Rattle.core_frames.specs.declared.shared.allocator.Core.{Core}
use Rattle.core_frames.specs.Cores.{memory_of, seat_of, view_in, known_by, StepsAlone}
use Rattle.core_frames.specs.FreeCounts.{frames_read, huge_read}
use Rattle.core_frames.specs.Uses.{IsSameAfter}
use Rattle.frame_zones.specs.Zones.{zone_count, zone_at, core_at}
use Rattle.frame_zones.specs.Uses.{OthersStay, moves_through}
use Rattle.frame_zones.specs.declared.zones.Zones.{Zones}
use Rattle.frame_zones.specs.declared.zones.ZoneCore.{ZoneCore}

-- the free frames of a zone, by what its core last read of the entry of each child, and never more than it has
abbrev pub free_frames_in : Allocator → Core → ℕ
free_frames_in a c = min (frames_read (reads_of (seat_of c)) (memory_of a).children) (memory_of a).frames

-- how many children of a zone are free as a whole, by the same, and never more than it has whole
abbrev pub free_huge_in : Allocator → Core → ℕ
free_huge_in a c =
    min (huge_read (reads_of (seat_of c)) (memory_of a).children) ((memory_of a).frames / child_frames)

-- how many words of entries a zone has
abbrev pub entry_words_in : Allocator → ℕ
entry_words_in a = entry_word_count (memory_of a)

-- a move was made for each word of entries, and what is lent, kept and in flight is as before
abbrev pub HasReadEntries : Allocator → Core → Core → Type 0
HasReadEntries a x y = IsSameAfter (entry_words_in a) (view_in x) (view_in y)

-- it was so in this zone; in the others, and where takes begin, all is as before
pub record ReadsIn (zs : Zones) (z : ℕ) (c d : ZoneCore) : Type 0 where
  pub here : (a : Allocator) (x : Core) → HasReadEntries (zone_at zs z a) (core_at c z x) (core_at d z x)
  pub others : OthersStay zs z c d
  pub same_stays : d.stays ≡ c.stays

-- so many are counted in this zone
abbrev pub IsCountIn : (Allocator → Core → ℕ) → Zones → ℕ → ZoneCore → ℕ → Type 0
IsCountIn count zs z c n = (a : Allocator) (x : Core) → n ≡ count (zone_at zs z a) (core_at c z x)

-- no more than the frames of this zone
abbrev pub IsFewIn : Zones → ℕ → ℕ → Type 0
IsFewIn zs z n = (a : Allocator) → n ≤ (memory_of (zone_at zs z a)).frames

-- in all zones together just a move was made for each word of entries of this zone
abbrev pub MovesForEntries : Zones → ℕ → ZoneCore → ZoneCore → Type 0
MovesForEntries zs z c d = (a : Allocator) → moves_through d ≡ moves_through c + entry_words_in (zone_at zs z a)

-- how many children the words show free as a whole
abbrev pub free_huge_by : Key → List ℕ → ℕ
free_huge_by key words = clear_blocks key words huge_order

-- where nobody else steps in this zone, and its words are known, they stay as they are, and count so many
abbrev pub IsExactIn : (Key → List ℕ → ℕ) → Zones → ℕ → ZoneCore → ZoneCore → ℕ → Type 0
IsExactIn count zs z c d n = (a : Allocator) (x : Core) → StepsAlone (zone_at zs z a) (core_at c z x)
    → FindsOf (λ words. n ≡ count (memory_of (zone_at zs z a)) words)
    (known_by (core_at c z x)) (known_by (core_at d z x))

-- so many are counted in all zones together
abbrev pub IsCountAmong : (Allocator → Core → ℕ) → Zones → ZoneCore → ℕ → Type 0
IsCountAmong count zs c n = (a : Allocator) (x : Core)
    → n ≡ sum_by (λ z. count (zone_at zs z a) (core_at c z x)) (range_with_len 0 (zone_count zs))

-- how many frames all zones have
abbrev pub frames_among : Zones → ℕ
frames_among zs = sum_by (λ a. (memory_of a).frames) zs.zones.items

-- how many words of entries all zones have
abbrev pub entry_words_among : Zones → ℕ
entry_words_among zs = sum_by entry_words_in zs.zones.items
