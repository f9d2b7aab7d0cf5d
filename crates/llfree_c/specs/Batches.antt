-- What takes and gives of several single frames at once leave, which structs carry.
use Rattle.std.specs.Prelude.{◌≡◌, ◌⊎◌, ℕ, pos, ◌+◌, ◌+ℤ◌, ◌-ℤ◌, ◌<◌, ◌≤◌, List, [], true, false, length, take, drop, Option}
use Rattle.std.specs.List.{All, sum_by}
use Rattle.core_frames.specs.declared.shared.allocator.Core.{Core}
use Rattle.frame_zones.specs.Zones.{zone_count}
use Rattle.frame_zones.specs.declared.zones.Zones.{Zones}
use Rattle.zone_slots.specs.Calls.{zones_of, SharesOne, KeepsCore, KeepsAllInEach}
use Rattle.zone_slots.specs.FrameCalls.{resting_in, KeepsRest, lent_out_in}
use Rattle.zone_slots.specs.Resting.{most_resting, refill_frames, flush_frames, one_in}
use Rattle.zone_slots.specs.declared.core_state.CoreState.{CoreState}
use Rattle.llfree_c.specs.Blocks.{IsOutOfOne, IsOfTheAllocator}
use Rattle.llfree_c.specs.Frames.{FindsNoFrame, LosesFrame}
use Rattle.llfree_c.specs.Status.{no_block, bad_order, not_held, not_closed, contended}
use Rattle.llfree_c.specs.declared.block_handle.BlockHandle.{BlockHandle}

-- the struct carries nothing
abbrev pub CarriesNothing : BlockHandle → Type 0
CarriesNothing h = h.live ≡ false

-- the struct carries a block
abbrev pub CarriesOne : BlockHandle → Type 0
CarriesOne h = h.live ≡ true

-- the struct carries no block above order 0
abbrev pub CarriesNoLarger : BlockHandle → Type 0
CarriesNoLarger h = h.live ≡ true → h.order ≡ 0

-- the struct carries a single frame
abbrev pub CarriesSingle : BlockHandle → Type 0
CarriesSingle h = (h.live ≡ true) × (h.order ≡ 0)

-- the struct carries the right to a single frame, which is out of a zone of the core
pub record CarriesSingleOf (s : CoreState) (h : BlockHandle) : Type 0 where
  pub single : CarriesSingle h
  pub out : IsOutOfOne s h

-- what each struct carries is of a zone of the core behind the handle
abbrev pub AreOfTheAllocator : Option CoreState → List BlockHandle → Type 0
AreOfTheAllocator o hs = All (IsOfTheAllocator o) hs

-- how many of the frames that these structs carry lie in the zone
abbrev pub carried_in : Zones → List BlockHandle → ℕ → ℕ
carried_in zs hs z = sum_by (λ h. one_in zs z h.frame) hs

-- in each zone as many blocks more are lent out as frames of these structs lie there, and what the core keeps is as
-- before
pub record LendsThese (hs : List BlockHandle) (s t : CoreState) : Type 0 where
  pub lent : (z : ℕ) (x : Core) → z < zone_count (zones_of s)
      → lent_out_in t z x ≡ lent_out_in s z x +ℤ pos (carried_in (zones_of s) hs z)
  pub kept : KeepsAllInEach s t

-- in each zone as many blocks fewer are lent out as frames of these structs lie there, and what the core keeps is as
-- before
pub record LendsTheseNoMore (hs : List BlockHandle) (s t : CoreState) : Type 0 where
  pub lent : (z : ℕ) (x : Core) → z < zone_count (zones_of s)
      → lent_out_in t z x ≡ lent_out_in s z x -ℤ pos (carried_in (zones_of s) hs z)
  pub kept : KeepsAllInEach s t

-- n frames fewer rest, and the core is as it was in each zone
pub record RestFewer (n : ℕ) (s t : CoreState) : Type 0 where
  pub fewer : length (resting_in t) + n ≡ length (resting_in s)
  pub core : KeepsCore s t

-- n frames more rest, and the core is as it was in each zone
pub record RestMore (n : ℕ) (s t : CoreState) : Type 0 where
  pub more : length (resting_in t) ≡ length (resting_in s) + n
  pub core : KeepsCore s t

-- each of the first n structs carries a single frame that was taken through the core, and the others are as before
pub record FillsFirst (n : ℕ) (before after : List BlockHandle) (s t : CoreState) : Type 0 where
  pub within : n ≤ length before
  pub each : All (CarriesSingleOf s) (take n after)
  pub others : drop n after ≡ drop n before
  pub lent : LendsThese (take n after) s t

-- behind the frames of these structs none rested, and the core found no other: a batch brought none, and none was
-- found in any zone, whether an exchange was lost or not
pub record FindsNoMore (hs : List BlockHandle) (s t : CoreState) : Type 0 where
  pub core : CoreState
  pub shared : SharesOne s core
  pub lent : LendsThese hs s core
  pub none : resting_in core ≡ []
  pub none_then : resting_in t ≡ []
  pub why : FindsNoFrame core t ⊎ LosesFrame core t

-- The first n structs were filled: all, or the core found no frame more. Where enough rested, all were and no step was
-- made; else fewer than 16 rest then.
pub record TakesFrames (n : ℕ) (before after : List BlockHandle) (s t : CoreState) : Type 0 where
  pub taken : FillsFirst n before after s t
  pub enough : length before ≤ length (resting_in s) → (n ≡ length before) × RestFewer n s t
  pub rests : length (resting_in s) < length before → length (resting_in t) < refill_frames
  pub fewer : n < length before → FindsNoMore (take n after) s t

-- why no single frame was taken into these structs: one carries a block; or none rested, and none was found and no
-- exchange was lost, or one was
abbrev pub RefusesFramesAs : (held : List BlockHandle) → (status : ℕ) → CoreState → CoreState → Type 0
RefusesFramesAs held status s t = KeepsRest s t
    × (((status ≡ not_closed) × (¬ All CarriesNothing held) × KeepsCore s t)
    ⊎ ((status ≡ no_block) × (resting_in s ≡ []) × FindsNoFrame s t)
    ⊎ ((status ≡ contended) × (resting_in s ≡ []) × LosesFrame s t))

-- The single frame of each struct was given through the core, and all are empty. Where there was room for all to rest,
-- no step was made; else more than 112 rest then.
pub record GivesFrames (before after : List BlockHandle) (s t : CoreState) : Type 0 where
  pub singles : All CarriesSingle before
  pub empty : All CarriesNothing after
  pub lent : LendsTheseNoMore before s t
  pub room : length (resting_in s) + length before ≤ most_resting → RestMore (length before) s t
  pub full : most_resting < length (resting_in s) + length before → most_resting < length (resting_in t) + flush_frames

-- why what these structs carry was not given as single frames: one carries nothing; or one a larger block
abbrev pub KeepsFramesAs : (held : List BlockHandle) → (status : ℕ) → CoreState → CoreState → Type 0
KeepsFramesAs held status s t = KeepsRest s t × KeepsCore s t
    × (((status ≡ not_held) × ¬ All CarriesOne held) ⊎ ((status ≡ bad_order) × ¬ All CarriesNoLarger held))
