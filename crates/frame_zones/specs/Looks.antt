-- Looks at a block, and for a run of huge frames, through cores of all zones.
use Rattle.std.specs.Prelude.{◌≡◌, ◌⊎◌, ℕ, ◌+◌, ◌*◌, ◌%◌, ◌^◌, ◌<◌, ◌≤◌, List, Bool, false, Option, IfSome, IfNone}
use Rattle.std.specs.List.{sum_by}
use Rattle.frame_words.specs.Geometry.{child_frames, huge_order}
use Rattle.frame_model.specs.Block.{block}
use Rattle.frame_model.specs.declared.key.Key.{Key}
use Rattle.low_frames.specs.Alone.{IsFreeIn, FindsOf}
use Rattle.core_frames.specs.declared.shared.allocator.Allocator.{Allocator}
use Rattle.core_frames.specs.declared.shared.allocator.Core.{Core}
use Rattle.core_frames.specs.Cores.{memory_of, view_in, known_by, StepsAlone, KeepsHabit}
use Rattle.core_frames.specs.Looks.{TellsTruly, IsSameWithin, LooksThrough}
use Rattle.frame_zones.specs.Frames.{IsFrameIn, IsInNoZone}
use Rattle.frame_zones.specs.Uses.{OthersStay}
use Rattle.frame_zones.specs.Zones.{zone_count, zone_at, core_at, first_frame_of, InEach}
use Rattle.frame_zones.specs.declared.zones.Zones.{Zones}
use Rattle.frame_zones.specs.declared.zones.ZoneCore.{ZoneCore}

-- Looks at a block.

-- the zone that has the frame was looked in for the block of the order that begins there, and the core of every
-- other zone is as before
pub record LooksThere (zs : Zones) (x n : ℕ) (answer : Bool) (c d : ZoneCore) : Type 0 where
  pub zone : ℕ
  pub local : ℕ
  pub is_there : IsFrameIn zs x zone local
  pub here : (a : Allocator) (y : Core)
      → LooksThrough (zone_at zs zone a) (block local n) answer (core_at c zone y) (core_at d zone y)
  pub others : OthersStay zs zone c d

-- no zone has the frame, which is told held, and all is as before
pub record LooksNowhere (zs : Zones) (x : ℕ) (answer : Bool) (c d : ZoneCore) : Type 0 where
  pub in_no_zone : IsInNoZone zs x
  pub is_false : answer ≡ false
  pub same : d ≡ c

-- a look at the block of the order that begins at this frame of all zones, in the zone that has it, or in none;
-- where takes begin is as before
pub record LooksAmong (zs : Zones) (x n : ℕ) (answer : Bool) (c d : ZoneCore) : Type 0 where
  pub same_stays : d.stays ≡ c.stays
  pub looks : LooksNowhere zs x answer c d ⊎ LooksThere zs x n answer c d

-- Runs of huge frames.

-- the most huge frames of a run
abbrev pub most_in_run : ℕ
most_in_run = 512

-- a run of so many huge frames may begin at this frame of all zones: at a multiple of 512 times their number,
-- which is rounded up to a power of two
pub record MayBeginRun (count x : ℕ) : Type 0 where
  pub order : ℕ
  pub enough : count ≤ 2 ^ order
  pub least : 2 ^ order < 2 * count
  pub aligned : x % (child_frames * 2 ^ order) ≡ 0

-- from this frame of all zones on lies a run of so many huge frames, of which this zone has all frames
pub record IsRunIn (zs : Zones) (count x z local : ℕ) : Type 0 where
  pub some : 1 ≤ count
  pub few : count ≤ most_in_run
  pub begins : MayBeginRun count x
  pub is_there : IsFrameIn zs x z local
  pub inside : (a : Allocator) → local + child_frames * count ≤ (memory_of (zone_at zs z a)).frames

-- each of so many huge frames, from this frame of the zone on, is free
abbrev pub AreFreeHuge : Key → (local count : ℕ) → List ℕ → Type 0
AreFreeHuge key local count words =
    (i : ℕ) → i < count → IsFreeIn key words (block (local + child_frames * i) huge_order)

-- no run of this zone is free that begins at this frame of all zones or behind it, and before another
abbrev pub HasNoFreeRunBefore : Zones → (count from to z : ℕ) → Key → List ℕ → Type 0
HasNoFreeRunBefore zs count from to z key words =
    (x local : ℕ) → IsRunIn zs count x z local → from ≤ x → x < to → ¬ AreFreeHuge key local count words

-- a run that begins at this frame or behind it; where nobody else steps in its zone, it is free, and in each zone
-- where nobody else steps none is that begins there or behind it and before this one
pub record FindsRun (zs : Zones) (count from x : ℕ) (c d : ZoneCore) : Type 0 where
  pub zone : ℕ
  pub local : ℕ
  pub is_run : IsRunIn zs count x zone local
  pub behind : from ≤ x
  pub alone : (a : Allocator) (y : Core) → StepsAlone (zone_at zs zone a) (core_at c zone y)
      → FindsOf (AreFreeHuge (memory_of (zone_at zs zone a)) local count)
      (known_by (core_at c zone y)) (known_by (core_at d zone y))
  pub lowest : (z : ℕ) (a : Allocator) (y : Core) → z < zone_count zs → StepsAlone (zone_at zs z a) (core_at c z y)
      → FindsOf (HasNoFreeRunBefore zs count from x z (memory_of (zone_at zs z a)))
      (known_by (core_at c z y)) (known_by (core_at d z y))

-- no run of this zone that begins at this frame of all zones or behind it is free
abbrev pub HasNoFreeRun : Zones → (count from z : ℕ) → Key → List ℕ → Type 0
HasNoFreeRun zs count from z key words =
    (x local : ℕ) → IsRunIn zs count x z local → from ≤ x → ¬ AreFreeHuge key local count words

-- in each zone where nobody else steps no run is free that begins at this frame or behind it
abbrev pub FindsNoRun : Zones → (count from : ℕ) → ZoneCore → ZoneCore → Type 0
FindsNoRun zs count from c d = (z : ℕ) (a : Allocator) (y : Core) → z < zone_count zs
    → StepsAlone (zone_at zs z a) (core_at c z y)
    → FindsOf (HasNoFreeRun zs count from z (memory_of (zone_at zs z a)))
    (known_by (core_at c z y)) (known_by (core_at d z y))

-- In one zone, whose first frame among those of all zones is known.

-- in a memory that begins at a frame a run of so many huge frames lies from this frame of all zones on
pub record BeginsFrom (first : ℕ) (key : Key) (count x local : ℕ) : Type 0 where
  pub begins : MayBeginRun count x
  pub sum : first + local ≡ x
  pub inside : local + child_frames * count ≤ key.frames

-- no run of the memory is free that begins at this frame of all zones or behind it
abbrev pub HasNoFreeFrom : (first count from : ℕ) → Key → List ℕ → Type 0
HasNoFreeFrom first count from key words =
    (x local : ℕ) → BeginsFrom first key count x local → from ≤ x → ¬ AreFreeHuge key local count words

-- no run of the memory is free that begins at this frame of all zones or behind it, and before another
abbrev pub HasNoFreeBefore : (first count from to : ℕ) → Key → List ℕ → Type 0
HasNoFreeBefore first count from to key words =
    (x local : ℕ) → BeginsFrom first key count x local → from ≤ x → x < to → ¬ AreFreeHuge key local count words

-- a run that begins at this frame or behind it; where nobody else steps it is free, and none before it is
pub record FindsRunFrom (a : Allocator) (first count from x : ℕ) (y w : Core) : Type 0 where
  pub local : ℕ
  pub lies : BeginsFrom first (memory_of a) count x local
  pub behind : from ≤ x
  pub alone : StepsAlone a y → FindsOf (AreFreeHuge (memory_of a) local count) (known_by y) (known_by w)
  pub lowest : StepsAlone a y
      → FindsOf (HasNoFreeBefore first count from x (memory_of a)) (known_by y) (known_by w)

-- the core is as before, but for at most one move for each child of the memory
pub record HasLookedAtChildren (a : Allocator) (x y : Core) : Type 0 where
  pub view : IsSameWithin (memory_of a).children (view_in x) (view_in y)
  pub same_habit : KeepsHabit x y

-- a look for a run in one memory
pub record LooksFrom (a : Allocator) (first count from : ℕ) (answer : Option ℕ) (y w : Core) : Type 0 where
  pub looked : HasLookedAtChildren a y w
  pub some : IfSome answer (λ x. FindsRunFrom a first count from x y w)
  pub none : IfNone answer (StepsAlone a y
      → FindsOf (HasNoFreeFrom first count from (memory_of a)) (known_by y) (known_by w))

-- a look at so many huge frames, from this frame of the memory on: at most one move was made for each, and where
-- nobody else steps the answer says whether each is free
pub record LooksAtHuge (a : Allocator) (local count : ℕ) (answer : Bool) (y w : Core) : Type 0 where
  pub view : IsSameWithin count (view_in y) (view_in w)
  pub same_habit : KeepsHabit y w
  pub alone : StepsAlone a y
      → FindsOf (TellsTruly (AreFreeHuge (memory_of a) local count) answer) (known_by y) (known_by w)

-- 512 times a number that is rounded up to a power of two
pub record IsRunStep (count step : ℕ) : Type 0 where
  pub order : ℕ
  pub enough : count ≤ 2 ^ order
  pub least : 2 ^ order < 2 * count
  pub is : step ≡ child_frames * 2 ^ order

-- a look for a run in this zone, and the core of every other one is as before
pub record LooksForRunIn (zs : Zones) (z count from : ℕ) (answer : Option ℕ) (c d : ZoneCore) : Type 0 where
  pub here : (a : Allocator) (y : Core)
      → LooksFrom (zone_at zs z a) (first_frame_of zs z) count from answer (core_at c z y) (core_at d z y)
  pub others : OthersStay zs z c d
  pub same_stays : d.stays ≡ c.stays

-- how many children all zones have
abbrev pub children_among : Zones → ℕ
children_among zs = sum_by (λ a. (memory_of a).children) zs.zones.items

-- a look for a run of so many huge frames that begins at this frame of all zones or behind it: one that was
-- found, or none; each child was looked at once at most, and nothing else has changed
pub record LooksForRun (zs : Zones) (count from : ℕ) (answer : Option ℕ) (c d : ZoneCore) : Type 0 where
  pub each : InEach zs HasLookedAtChildren c d
  pub same_stays : d.stays ≡ c.stays
  pub some : IfSome answer (λ x. FindsRun zs count from x c d)
  pub none : IfNone answer (FindsNoRun zs count from c d)
