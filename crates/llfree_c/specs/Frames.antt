-- What takes and gives of single frames leave that a struct carries or that rest with a core.
use Rattle.std.specs.Prelude.{◌≡◌, ◌⊎◌, ℕ, ◌+◌, ◌<◌, [], true, false, length, Option, Some, None}
use Rattle.frame_zones.specs.declared.zones.ZoneCore.{ZoneCore}
use Rattle.zone_slots.specs.Calls.{zones_of, SharesOne, KeepsCore, KeepsAllInEach}
use Rattle.zone_slots.specs.FrameCalls.{resting_in, next_batch, KeepsRest, LendsOneMore, LendsOneLess, LendsAsManyInEach}
use Rattle.zone_slots.specs.Resting.{most_resting, flush_frames, BringsNone}
use Rattle.zone_slots.specs.Uses.{EachLendsSame, FindsNothingAnywhere, LoseSome}
use Rattle.zone_slots.specs.declared.core_state.CoreState.{CoreState}
use Rattle.llfree_c.specs.Blocks.{IsOutOfOne}
use Rattle.llfree_c.specs.Status.{no_block, bad_order, not_held, not_closed, contended}
use Rattle.llfree_c.specs.declared.block_handle.BlockHandle.{BlockHandle}

-- one frame that rested left, and the core is as it was in each zone
pub record NoLongerRests (s t : CoreState) : Type 0 where
  pub one : length (resting_in t) + 1 ≡ length (resting_in s)
  pub core : KeepsCore s t

-- one frame came to rest, and the core is as it was in each zone
pub record ComesToRest (s t : CoreState) : Type 0 where
  pub one : length (resting_in t) ≡ length (resting_in s) + 1
  pub core : KeepsCore s t

-- a single frame was taken through the core, and is carried; where one rested, no step was made, and where none did,
-- fewer rest then than were asked for, at most 16
pub record TakesFrame (h : BlockHandle) (s t : CoreState) : Type 0 where
  pub live : h.live ≡ true
  pub order : h.order ≡ 0
  pub out : IsOutOfOne s h
  pub lent : LendsOneMore h.frame s t
  pub rested : 0 < length (resting_in s) → NoLongerRests s t
  pub few : resting_in s ≡ [] → length (resting_in t) < next_batch s

-- the single frame of this number was given through the core; where there was room for it to rest, no step was
-- made, and where there was none, 8 of those that rested went back
pub record GivesFrame (frame : ℕ) (s t : CoreState) : Type 0 where
  pub lent : LendsOneLess frame s t
  pub rests : length (resting_in s) < most_resting → ComesToRest s t
  pub full : length (resting_in s) ≡ most_resting → length (resting_in t) + flush_frames ≡ most_resting + 1

-- behind a batch that brought none the core found no single frame in any zone, and lost no exchange; each zone lends
-- as many as before, and what the core keeps there is as before
pub record FindsNoFrame (s t : CoreState) : Type 0 where
  pub core : ZoneCore
  pub batch : BringsNone (zones_of s) (next_batch s) s.core core
  pub in_each : FindsNothingAnywhere (zones_of s) 0 core t.core
  pub lent : EachLendsSame (zones_of s) s.core t.core
  pub kept : KeepsAllInEach s t

-- behind a batch that brought none the core found no single frame in any zone, and lost an exchange; each zone lends
-- as many as before, and what the core keeps there is as before
pub record LosesFrame (s t : CoreState) : Type 0 where
  pub core : ZoneCore
  pub batch : BringsNone (zones_of s) (next_batch s) s.core core
  pub lost : LoseSome (zones_of s) 0 core t.core
  pub lent : EachLendsSame (zones_of s) s.core t.core
  pub kept : KeepsAllInEach s t

-- why no single frame was taken into the struct: that carries a block; or none rested, and none was found and no
-- exchange was lost, or one was
abbrev pub RefusesFrameAs : (held : BlockHandle) → (status : ℕ) → CoreState → CoreState → Type 0
RefusesFrameAs held status s t = KeepsRest s t
    × (((status ≡ not_closed) × (held.live ≡ true) × KeepsCore s t)
    ⊎ ((status ≡ no_block) × (resting_in s ≡ []) × FindsNoFrame s t)
    ⊎ ((status ≡ contended) × (resting_in s ≡ []) × LosesFrame s t))

-- why what the struct carries was not given as a single frame: it carries none; or a block of a larger order
abbrev pub KeepsFrameAs : (held : BlockHandle) → (status : ℕ) → CoreState → CoreState → Type 0
KeepsFrameAs held status s t = KeepsRest s t × KeepsCore s t
    × (((status ≡ not_held) × (held.live ≡ false)) ⊎ ((status ≡ bad_order) × (0 < held.order)))

-- all that rested went back: in each zone as many blocks are lent besides as before, and what the core keeps is as
-- before
pub record Drains (s t : CoreState) : Type 0 where
  pub shared : SharesOne s t
  pub none : resting_in t ≡ []
  pub lent : LendsAsManyInEach s t

-- how many frames rest with the core behind the handle, or 0
abbrev pub resting_behind : Option CoreState → ℕ
resting_behind (Some s) = length (resting_in s)
resting_behind None = 0
