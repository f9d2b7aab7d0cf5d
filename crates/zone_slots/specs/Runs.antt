-- What looks at a block leave, and takes and gives of runs: of huge frames that lie side by side in a zone.
use Rattle.std.specs.Prelude.{◌≡◌, ◌⊎◌, ℕ, pos, ◌+◌, ◌*◌, ◌^◌, ◌+ℤ◌, ◌-ℤ◌, ◌<◌, ◌≤◌, Bool, Option, Some, None, option_map, ⊤}
use Rattle.core_frames.specs.Cores.{memory_of, lent_by}
use Rattle.core_frames.specs.declared.shared.allocator.Allocator.{Allocator}
use Rattle.core_frames.specs.declared.shared.allocator.Core.{Core}
use Rattle.frame_core.specs.Mover.{LiesInside}
use Rattle.frame_model.specs.Block.{block}
use Rattle.frame_model.specs.declared.block.FrameBlock.{FrameBlock}
use Rattle.frame_words.specs.Geometry.{child_frames, huge_order}
use Rattle.frame_words.specs.declared.fault.TakeFault.{TakeFault}
use Rattle.frame_words.specs.declared.fault.TakeFault.TheVariants.{BadOrder, NoBlock, Contended}
use Rattle.frame_zones.specs.Looks.{most_in_run, LooksAmong, LooksForRun, IsRunIn, MayBeginRun}
use Rattle.frame_zones.specs.Uses.{OthersStay, KeepsAll}
use Rattle.frame_zones.specs.Zones.{zone_count, zone_at, core_at, first_frame_of, InEach}
use Rattle.frame_zones.specs.declared.block.GivenBlock.{GivenBlock}
use Rattle.frame_zones.specs.declared.zones.ZoneCore.{ZoneCore}
use Rattle.frame_zones.specs.declared.zones.Zones.{Zones}
use Rattle.low_frames.specs.Outcomes.{HasNoBootFrame}
use Rattle.zone_slots.specs.Calls.{zones_of, last_parts, KeepsCore}
use Rattle.zone_slots.specs.Memories.{IsInZone}
use Rattle.zone_slots.specs.Uses.{HasBlock, OthersLendAsMany, EachLendsSame, one_more}
use Rattle.zone_slots.specs.declared.core_state.CoreState.{CoreState}
use Rattle.zone_slots.specs.declared.given_back.GivenBack.{GivenBack}
use Rattle.zone_slots.specs.declared.given_back.Miss.{Miss}
use Rattle.zone_slots.specs.declared.given_back.Miss.TheVariants.{Held, Lost, Slotless}
use Rattle.zone_slots.specs.declared.looks.SeenRun.{SeenRun}
use Rattle.zone_slots.specs.declared.looks.Sight.{Sight}
use Rattle.zone_slots.specs.declared.refusal.Refusal.{Refusal}
use Rattle.zone_slots.specs.declared.refusal.Refusal.TheVariants.{NotHeld, NoParts, NoSlot}
use Rattle.zone_slots.specs.declared.parts.Parts.{Parts}
use Rattle.zone_slots.specs.declared.runs.GivenRun.{GivenRun}

-- a look through the core at the block of the order that begins at the frame of this number
abbrev pub LooksFor : (order frame : ℕ) → Bool → CoreState → CoreState → Type 0
LooksFor order frame answer s t = LooksAmong (zones_of s) frame order answer s.core t.core

-- there are runs of so many huge frames
pub record IsRunCount (count : ℕ) : Type 0 where
  pub some : 0 < count
  pub few : count ≤ most_in_run

-- the first frame of a huge frame of the run that begins here
abbrev pub frame_in_run : (first i : ℕ) → ℕ
frame_in_run first i = first + child_frames * i

-- each huge frame of a run is so
abbrev pub OfEach : (ℕ → Type 0) → (first count : ℕ) → Type 0
OfEach Holds first count = (i : ℕ) → i < count → Holds (frame_in_run first i)

-- such a huge frame is in the allocator's memory, none of whose frames its opening held back or is past the
-- end
pub record IsTakeable (a : Allocator) (frame : ℕ) : Type 0 where
  pub is_block : HasBlock huge_order frame a
  pub no_boot_frame : HasNoBootFrame (memory_of a) (block frame huge_order)
  pub inside : LiesInside (memory_of a) (block frame huge_order)

-- each huge frame of the run is such a one, and the core lends one block more for each
pub record TakesRunAt (a : Allocator) (count first : ℕ) (c d : Core) : Type 0 where
  pub each : OfEach (IsTakeable a) first count
  pub lent : lent_by d ≡ lent_by c +ℤ pos count

-- the run was taken in the zone, and every other zone lends as many as before
pub record TakesRunInZone (zs : Zones) (count : ℕ) (c d : ZoneCore) (z local : ℕ) : Type 0 where
  pub here : (a : Allocator) (x : Core)
      → TakesRunAt (zone_at zs z a) count local (core_at c z x) (core_at d z x)
  pub others : OthersLendAsMany zs z c d

-- the run that begins at the frame of this number was taken
abbrev pub TakesRunByNumber : Zones → (count frame : ℕ) → ZoneCore → ZoneCore → Type 0
TakesRunByNumber zs count frame c d = IsInZone zs frame (TakesRunInZone zs count c d)

-- a run was taken through the core, and each of these very huge frames, side by side, was laid down at its
-- slot; it begins where a run of so many may, and what the core keeps in each zone is as before
pub record TakesRunFor (count frame : ℕ) (s t : CoreState) : Type 0 where
  pub kept : InEach (zones_of s) KeepsAll s.core t.core
  pub taken : TakesRunByNumber (zones_of s) count frame s.core t.core
  pub begins : MayBeginRun count frame
  pub laid : last_parts t ≡ Some (block frame huge_order, count)

-- of a run no more than so many huge frames were laid down, and each was looked for at its slot once, to be given
-- back: only those that did not rest there any more are lent; every other zone lends as many blocks as before
pub record GivesBack (zs : Zones) (most : ℕ) (c d : ZoneCore) (b : GivenBack) : Type 0 where
  pub within : b.parts.zone < zone_count zs
  pub order : b.parts.order ≡ huge_order
  pub few : b.parts.count ≤ most
  pub all : b.given + b.missed ≡ b.parts.count
  pub here : (x : Core)
      → lent_by (core_at d b.parts.zone x) ≡ lent_by (core_at c b.parts.zone x) +ℤ pos b.missed
  pub others : OthersLendAsMany zs b.parts.zone c d

-- that place was no run since a huge frame of it found no slot
abbrev pub WasSlotless : Miss → Type 0
WasSlotless Held = ⊥
WasSlotless Lost = ⊥
WasSlotless (Slotless found) = ⊤

-- one of those that were laid down did not rest at its slot any more, or another one found no slot
abbrev pub HasMissedSlot : GivenBack → Type 0
HasMissedSlot b = (0 < b.missed) ⊎ WasSlotless b.miss

-- a huge frame of a run found no slot, or others fetched it from there before the run was whole, and this is
-- counted; the core remembers what it gave back, and how much of it was missed, and keeps in each zone what it did
pub record MissesSlot (zs : Zones) (count : ℕ) (c d : ZoneCore) (times later : ℕ) (back : Option GivenBack)
    : Type 0 where
  pub kept : InEach zs KeepsAll c d
  pub counted : later ≡ one_more times
  pub what : GivenBack
  pub very : back ≡ Some what
  pub missed : HasMissedSlot what
  pub lent : GivesBack zs count c d what

-- the frame right behind the first one of a run of so many huge frames
pub record IsBehindRun (zs : Zones) (count from : ℕ) : Type 0 where
  pub x : ℕ
  pub zone : ℕ
  pub local : ℕ
  pub is_run : IsRunIn zs count x zone local
  pub behind : from ≡ x + 1

-- the last look for a run of so many found none. It went from frame 0 on, and was the first thing that was done; or
-- it went on behind a run that was tried
pub record LooksInVain (zs : Zones) (count : ℕ) (c d : ZoneCore) : Type 0 where
  pub from : ℕ
  pub before : ZoneCore
  pub look : LooksForRun zs count from None before d
  pub begins : ((from ≡ 0) × (before ≡ c)) ⊎ IsBehindRun zs count from

-- the last look found none; each zone lends as many blocks as before, and the core keeps there what it did
pub record FindsNoRunFor (zs : Zones) (count : ℕ) (c d : ZoneCore) (times later : ℕ) : Type 0 where
  pub kept : InEach zs KeepsAll c d
  pub looks : LooksInVain zs count c d
  pub lent : EachLendsSame zs c d
  pub counted : later ≡ times

-- why a take of a run was refused: there are no runs of so many huge frames, and all is as before; or none was
-- found; or, which alone is counted, a huge frame missed its slot
abbrev pub IsRefusedRun : Zones → (count : ℕ) → ZoneCore → ZoneCore → (times later : ℕ) → Option GivenBack → TakeFault
    → Type 0
IsRefusedRun zs count c d times later back BadOrder = (¬ IsRunCount count) × (d ≡ c) × (later ≡ times)
IsRefusedRun zs count c d times later back NoBlock = IsRunCount count × FindsNoRunFor zs count c d times later
IsRefusedRun zs count c d times later back Contended =
    IsRunCount count × (FindsNoRunFor zs count c d times later ⊎ MissesSlot zs count c d times later back)

-- why such a take through the core was refused
abbrev pub RefusesRun : ℕ → CoreState → CoreState → TakeFault → Type 0
RefusesRun count s t fault = IsRefusedRun (zones_of s) count s.core t.core s.slotless t.slotless t.back fault

-- each huge frame of the run is in the allocator's memory, and the core lends one block less for each
pub record GivesRunAt (a : Allocator) (count first : ℕ) (c d : Core) : Type 0 where
  pub each : OfEach (λ frame. HasBlock huge_order frame a) first count
  pub lent : lent_by d ≡ lent_by c -ℤ pos count

-- the run was given in the zone, and in every other all is as before
pub record GivesRunInZone (zs : Zones) (count : ℕ) (c d : ZoneCore) (z local : ℕ) : Type 0 where
  pub here : (a : Allocator) (x : Core)
      → GivesRunAt (zone_at zs z a) count local (core_at c z x) (core_at d z x)
  pub others : OthersStay zs z c d

-- the run that begins at the frame of this number was given
abbrev pub GivesRunByNumber : Zones → (count frame : ℕ) → ZoneCore → ZoneCore → Type 0
GivesRunByNumber zs count frame c d = IsInZone zs frame (GivesRunInZone zs count c d)

-- what was given side by side: the first huge frame, by its number among the frames of all zones, and how many
-- they are
abbrev pub run_given : Zones → GivenRun → FrameBlock × ℕ
run_given zs g = (block (first_frame_of zs g.seen.zone + g.seen.frame) huge_order, g.count)

-- the run that was seen before, each of its huge frames at its slot: the first one, and how many they are
abbrev pub run_seen : Zones → SeenRun → FrameBlock × ℕ
run_seen zs r = (block (first_frame_of zs r.zone + r.frame) huge_order, r.count)

-- the run that the last give of one through the core gave
abbrev pub last_run : CoreState → Option (FrameBlock × ℕ)
last_run s = option_map (run_given (zones_of s)) s.run

-- the run that the last give of one through the core saw at its slots, before it gave the first huge frame
abbrev pub last_run_seen : CoreState → Option (FrameBlock × ℕ)
last_run_seen s = option_map (λ g. run_seen (zones_of s) g.seen) s.run

-- each huge frame of the run was seen at its slot, and then just so many were given through the core, the first first
pub record SeesAndGivesRun (count some frame : ℕ) (s t : CoreState) : Type 0 where
  pub seen : last_run_seen t ≡ Some (block frame huge_order, count)
  pub given : GivesRunByNumber (zones_of s) some frame s.core t.core
  pub very : last_run t ≡ Some (block frame huge_order, some)

-- a run was given through the core, and it was this very one; each of its huge frames was seen at its slot before
abbrev pub GivesRunFor : (count frame : ℕ) → CoreState → CoreState → Type 0
GivesRunFor count frame s t = SeesAndGivesRun count count frame s t

-- the whole run was seen at its slots, and then only its first huge frames were given, and not all of them
pub record GivesFirstFor (count frame : ℕ) (s t : CoreState) : Type 0 where
  pub some : ℕ
  pub fewer : some < count
  pub given : SeesAndGivesRun count some frame s t

-- why a give of a run through the core was refused: there are no runs of so many huge frames, or one of them is
-- not held, and all is as before; or one was lost to others while it was given, and those before it were given
abbrev pub RefusesGiveRun : (count frame : ℕ) → CoreState → CoreState → Refusal → Type 0
RefusesGiveRun count frame s t NoParts = (¬ IsRunCount count) × KeepsCore s t
RefusesGiveRun count frame s t NotHeld = IsRunCount count × (KeepsCore s t ⊎ GivesFirstFor count frame s t)
RefusesGiveRun count frame s t NoSlot = ⊥

-- one of a run's huge frames more was given
pub record IsOneMore (p q : GivenRun) : Type 0 where
  pub seen : q.seen ≡ p.seen
  pub count : q.count ≡ p.count + 1

-- it is the huge frame right behind them, one of those that were seen, and they are fewer than a run may have
pub record IsNextGiven (p : GivenRun) (g : GivenBlock) : Type 0 where
  pub zone : g.zone ≡ p.seen.zone
  pub frame : g.frame ≡ frame_in_run p.seen.frame p.count
  pub order : g.order ≡ huge_order
  pub seen : p.count < p.seen.count
  pub few : p.count < most_in_run

-- one of a run's huge frames more was seen
pub record SeesOneMore (p q : SeenRun) : Type 0 where
  pub zone : q.zone ≡ p.zone
  pub frame : q.frame ≡ p.frame
  pub count : q.count ≡ p.count + 1

-- the huge frame right behind them was seen at its slot, and they are fewer than a run may have
pub record IsNextSeen (p : SeenRun) (s : Sight) : Type 0 where
  pub zone : s.zone ≡ p.zone
  pub frame : s.frame ≡ frame_in_run p.frame p.count
  pub order : s.order ≡ huge_order
  pub few : p.count < most_in_run

-- so many blocks of the zone fewer are lent, and in every other zone all is as before
pub record LendsFewer (zs : Zones) (n : ℕ) (c d : ZoneCore) (z : ℕ) : Type 0 where
  pub here : (x : Core) → lent_by (core_at d z x) ≡ lent_by (core_at c z x) -ℤ pos n
  pub others : OthersStay zs z c d

-- what was laid down ends where frames of a zone have numbers
pub record EndsAtMost (p : Parts) : Type 0 where
  pub ends : p.frame + child_frames * p.count < 2 ^ 32

-- a run was taken in its zone and laid down, and these are its huge frames
pub record HasTakenRun (zs : Zones) (count : ℕ) (c d : ZoneCore) (p : Parts) : Type 0 where
  pub within : p.zone < zone_count zs
  pub some : 0 < count
  pub order : p.order ≡ huge_order
  pub all : p.count ≡ count
  pub taken : TakesRunInZone zs count c d p.zone p.frame
