-- Answers to takes through a core of all zones that would be wrong.
use Rattle.std.specs.Prelude.{◌≡◌, ◌≢◌, ℕ, ◌+◌, ◌^◌, ◌<◌, ◌≤◌, true}
use Rattle.frame_words.specs.Geometry.{huge_order}
use Rattle.frame_words.specs.declared.fault.TakeFault.TheVariants.{BadOrder, NoBlock, Contended}
use Rattle.frame_model.specs.Key.{tree_count, is_boot_frame}
use Rattle.core_frames.specs.Cores.{memory_of, moves_by, losses_by}
use Rattle.core_frames.specs.declared.shared.allocator.Allocator.{Allocator}
use Rattle.core_frames.specs.declared.shared.allocator.Core.{Core}
use Rattle.frame_zones.specs.Frames.{IsFrameIn, IsInNoZone}
use Rattle.frame_zones.specs.Zones.{zone_count, zone_at, core_at}
use Rattle.frame_zones.specs.declared.zones.Zones.{Zones}
use Rattle.zone_slots.specs.Calls.{zones_of, TakesFor, RefusesTake, CountsOne}
use Rattle.zone_slots.specs.declared.core_state.CoreState.{CoreState}

-- the frame of this number lies in the block of the order that begins at that one
abbrev pub LiesFrom : (frame order x : ℕ) → Type 0
LiesFrom frame order x = (frame ≤ x) × (x < frame + 2 ^ order)

-- the opening of a fresh memory held the frame back
abbrev pub IsHeldBack : Zones → ℕ → Type 0
IsHeldBack zs x = (z : ℕ) × (y : ℕ) × IsFrameIn zs x z y × ((a : Allocator)
    → ((memory_of (zone_at zs z a)).sealed ≡ true) × (is_boot_frame (memory_of (zone_at zs z a)) y ≡ true))

-- of a fresh memory no take answers a block with a frame that the opening held back
abbrev pub TakenFromBoot : Type 0
TakenFromBoot = (n frame x : ℕ) (s t : CoreState) → IsHeldBack (zones_of s) x → LiesFrom frame n x
    → ¬ TakesFor n frame s t

-- no take answers a block with a frame that no zone has, in a hole or past the end
abbrev pub TakenFromAHole : Type 0
TakenFromAHole = (n frame x : ℕ) (s t : CoreState) → IsInNoZone (zones_of s) x → LiesFrom frame n x
    → ¬ TakesFor n frame s t

-- blocks of takes of two zones of one memory have no frame's number in common
abbrev pub TakenOfTwoZones : Type 0
TakenOfTwoZones = (n m i j x : ℕ) (s t u v : CoreState) → zones_of u ≡ zones_of s
    → (one : TakesFor n i s t) → (two : TakesFor m j u v) → one.taken.zone ≢ two.taken.zone
    → LiesFrom i n x → ¬ LiesFrom j m x

-- the core made fewer moves in some zone than it has trees
abbrev pub SkipsTrees : CoreState → CoreState → Type 0
SkipsTrees s t = (z : ℕ) × (z < zone_count (zones_of s)) × ((a : Allocator) (x : Core)
    → moves_by (core_at t.core z x) < moves_by (core_at s.core z x) + tree_count (memory_of (zone_at (zones_of s) z a)))

-- the core lost an exchange in some zone
abbrev pub LosesSome : CoreState → CoreState → Type 0
LosesSome s t = (z : ℕ) × (z < zone_count (zones_of s)) × ((x : Core)
    → losses_by (core_at s.core z x) < losses_by (core_at t.core z x))

-- the core lost none in any
abbrev pub LosesNowhere : CoreState → CoreState → Type 0
LosesNowhere s t = (z : ℕ) (x : Core) → z < zone_count (zones_of s)
    → losses_by (core_at t.core z x) ≤ losses_by (core_at s.core z x)

-- no take says that it found no block after fewer moves in some zone than it has trees, or with a lost
-- exchange
abbrev pub NoneIsUnsought : Type 0
NoneIsUnsought = (n : ℕ) (s t : CoreState)
    → (SkipsTrees s t → ¬ RefusesTake n s t NoBlock) × (LosesSome s t → ¬ RefusesTake n s t NoBlock)

-- none that counts no block without a slot says that it was contended, after fewer moves in some zone
-- than it has trees or with no lost exchange
abbrev pub ContendedForNothing : Type 0
ContendedForNothing = (n : ℕ) (s t : CoreState) → ¬ CountsOne s t
    → (SkipsTrees s t → ¬ RefusesTake n s t Contended) × (LosesNowhere s t → ¬ RefusesTake n s t Contended)

-- none is refused for its order up to 9, and none above for want of a block
abbrev pub OrderIsAnother : Type 0
OrderIsAnother = (n : ℕ) (s t : CoreState)
    → (n ≤ huge_order → ¬ RefusesTake n s t BadOrder)
    × (huge_order < n → (¬ RefusesTake n s t NoBlock) × (¬ RefusesTake n s t Contended))
