-- Single frames that rest with a core, and what each zone lends besides.
use Rattle.std.specs.Prelude.{◌≡◌, ℕ, ℤ, pos, ◌-ℤ◌, ◌+◌, ◌<◌, Option, None, IfSome, Bool, ◌&&◌, nat_le, nat_lt, if◌then◌else◌, List, [], Some, length, ◌-◌, slice_get, slice_index_or}
use Rattle.std.specs.List.{All, sum_by}
use Rattle.core_frames.specs.Cores.{lent_by}
use Rattle.core_frames.specs.declared.shared.allocator.Core.{Core}
use Rattle.frame_table.specs.declared.block.Block.{Block}
use Rattle.frame_words.specs.Geometry.{child_frames}
use Rattle.frame_zones.specs.Fills.{TakesMoreIn}
use Rattle.frame_zones.specs.Uses.{KeepsAll}
use Rattle.frame_zones.specs.Zones.{zone_count, core_at, first_frame_of, first_frame_in, InEach, AreCoresOf, IsOutOfItsZone}
use Rattle.frame_zones.specs.declared.block.ZoneBlock.{ZoneBlock}
use Rattle.frame_zones.specs.declared.zones.Zones.{Zones}
use Rattle.frame_zones.specs.declared.zones.ZoneCore.{ZoneCore}
use Rattle.zone_slots.specs.Layouts.{Stretch, end_of_children}
use Rattle.zone_slots.specs.Memories.{IsOutOfZone}
use Rattle.zone_slots.specs.Rights.{IsRightFrom}
use Rattle.zone_slots.specs.Uses.{TakesByNumber}
use Rattle.zone_slots.specs.declared.single_frame.SingleFrame.{SingleFrame}

-- how many frames rest with a core at most
abbrev pub most_resting : ℕ
most_resting = 128

-- how many come to rest at once at most
abbrev pub refill_frames : ℕ
refill_frames = 16

-- how many where those that came last lay apart
abbrev pub refill_apart : ℕ
refill_apart = 8

-- how many of them go back where there is no place for one more
abbrev pub flush_frames : ℕ
flush_frames = 8

-- how many come to rest next, behind a batch that reaches down from one of these frames to the other: as many as may
-- where they lie less than a huge frame apart, else fewer
abbrev pub batch_behind : (upper lower : ℕ) → ℕ
batch_behind m n = if nat_lt (m - n) child_frames then refill_frames else refill_apart

-- so many come next behind the frames that rest; where none does, as many as before
pub record PlansNext (frames : List SingleFrame) (before after : ℕ) : Type 0 where
  pub ends : (upper lower : SingleFrame) → slice_get frames 0 ≡ Some upper
      → slice_get frames (length frames - 1) ≡ Some lower → after ≡ batch_behind upper.frame lower.frame
  pub none : frames ≡ [] → after ≡ before

-- it is the right to the frame of its number
abbrev pub IsSingleIn : Zones → SingleFrame → Type 0
IsSingleIn zs f = IsRightFrom zs f.frame 0 f.seat.table_id f.seat.me

-- each of them is
pub record AreSingles (zs : Zones) (frames : List SingleFrame) : Type 0 where
  pub each : All (IsSingleIn zs) frames

-- the frames of a zone, by their numbers
abbrev pub stretch_of : Zones → ℕ → Stretch
stretch_of zs z = (first_frame_of zs z, slice_index_or zs.frames.items z 0)

-- the frame of this number lies in a child of the zone
abbrev pub lies_in : Zones → (zone number : ℕ) → Bool
lies_in zs z n = nat_le (first_frame_of zs z) n && nat_lt n (end_of_children (stretch_of zs z))

-- 1 for the zone in which the frame of this number lies, and 0 for each other
abbrev pub one_in : Zones → (zone number : ℕ) → ℕ
one_in zs z n = if lies_in zs z n then 1 else 0

-- how many of these frames lie in the zone
abbrev pub singles_in : Zones → List SingleFrame → ℕ → ℕ
singles_in zs frames z = sum_by (λ f. one_in zs z f.frame) frames

-- how many blocks of a zone more were handed out than came in, where these frames rest: they are lent to nobody
abbrev pub lent_besides : Zones → ZoneCore → List SingleFrame → ℕ → Core → ℤ
lent_besides zs c frames z x = lent_by (core_at c z x) -ℤ pos (singles_in zs frames z)

-- the cores are of these zones, all that rests are rights to single frames of them, and each zone lends as many
-- blocks besides as before; what the core keeps in each is as before
pub record LendAsManyBesides (zs : Zones) (c : ZoneCore) (before : List SingleFrame) (d : ZoneCore)
    (after : List SingleFrame) : Type 0 where
  pub are_cores : AreCoresOf zs d
  pub are_singles : AreSingles zs after
  pub lent : (z : ℕ) (x : Core) → z < zone_count zs → lent_besides zs d after z x ≡ lent_besides zs c before z x
  pub kept : InEach zs KeepsAll c d

-- 1 for the zone of the block, and 0 for each other
abbrev pub block_in_zone : Zones → ZoneBlock → ℕ → ℕ
block_in_zone zs b z = one_in zs z (first_frame_in zs b)

-- how many blocks of a zone are in hand, where one may be
abbrev pub in_hand : Zones → Option ZoneBlock → ℕ → ℕ
in_hand zs None z = 0
in_hand zs (Some b) z = block_in_zone zs b z

-- two blocks went back or were joined: the cores are of these zones, what is in hand then is out, and besides what
-- is in hand each zone lends as many blocks as before; what the core keeps in each is as before
pub record GoBackOrJoin (zs : Zones) (c : ZoneCore) (first second : Option ZoneBlock) (d : ZoneCore)
    (r : Option ZoneBlock) : Type 0 where
  pub are_cores : AreCoresOf zs d
  pub out : IfSome r (IsOutOfItsZone zs)
  pub lent : (z : ℕ) (x : Core) → z < zone_count zs
      → lent_by (core_at d z x) -ℤ pos (in_hand zs r z)
      ≡ (lent_by (core_at c z x) -ℤ pos (in_hand zs first z)) -ℤ pos (in_hand zs second z)
  pub kept : InEach zs KeepsAll c d

-- some frames left the list: they went back, or are in hand as one block; each zone lends as many blocks besides
-- as before, and what the core keeps there is as before
pub record LeaveTheList (zs : Zones) (c : ZoneCore) (before : List SingleFrame) (d : ZoneCore)
    (after : List SingleFrame) (r : Option ZoneBlock) : Type 0 where
  pub are_cores : AreCoresOf zs d
  pub are_singles : AreSingles zs after
  pub out : IfSome r (IsOutOfItsZone zs)
  pub lent : (z : ℕ) (x : Core) → z < zone_count zs
      → lent_besides zs d after z x -ℤ pos (in_hand zs r z) ≡ lent_besides zs c before z x
  pub kept : InEach zs KeepsAll c d

-- the right to a single frame was taken through the core
pub record HasTakenSingle (zs : Zones) (c d : ZoneCore) (f : SingleFrame) : Type 0 where
  pub is_single : IsSingleIn zs f
  pub taken : TakesByNumber zs 0 f.frame c d

-- a single frame is out in the zone
pub record IsSingleOfZone (zs : Zones) (z : ℕ) (b : Block) : Type 0 where
  pub is_out : IsOutOfZone zs z b
  pub single : b.order ≡ 0

-- n rights to single frames of the zone came to rest
pub record ComeToRest (zs : Zones) (z n : ℕ) (before after : List SingleFrame) : Type 0 where
  pub are_singles : AreSingles zs after
  pub count : length after ≡ length before + n
  pub here : singles_in zs after z ≡ singles_in zs before z + n
  pub others : (k : ℕ) → k < zone_count zs → ¬ (k ≡ z) → singles_in zs after k ≡ singles_in zs before k

-- a batch through the core brought none: of up to so many single frames of a zone none was taken, and the core of
-- every other zone is as before
pub record BringsNone (zs : Zones) (most : ℕ) (c d : ZoneCore) : Type 0 where
  pub zone : ℕ
  pub none : TakesMoreIn zs zone 0 most [] [] c d
