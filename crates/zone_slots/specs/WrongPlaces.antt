-- Answers to takes of just one block through a core of all zones that would be wrong.
use Rattle.std.specs.Prelude.{◌≡◌, ◌≢◌, ℕ, ◌<◌, ◌≤◌, List, Some}
use Rattle.frame_words.specs.Geometry.{huge_order}
use Rattle.frame_words.specs.declared.fault.TakeFault.{TakeFault}
use Rattle.frame_words.specs.declared.fault.TakeFault.TheVariants.{BadOrder, NoBlock, Contended}
use Rattle.frame_model.specs.Block.{block}
use Rattle.frame_model.specs.declared.block.FrameBlock.{FrameBlock}
use Rattle.low_frames.specs.Alone.{IsFreeIn}
use Rattle.core_frames.specs.Cores.{memory_of, known_by, StepsAlone}
use Rattle.core_frames.specs.Places.{HasSuchBlock}
use Rattle.core_frames.specs.declared.shared.allocator.Allocator.{Allocator}
use Rattle.core_frames.specs.declared.shared.allocator.Core.{Core}
use Rattle.frame_zones.specs.Frames.{IsFrameIn, IsNotIn, IsInNoZone}
use Rattle.frame_zones.specs.Zones.{zone_count, zone_at, core_at}
use Rattle.frame_zones.specs.declared.zones.ZoneCore.{ZoneCore}
use Rattle.frame_zones.specs.declared.zones.Zones.{Zones}
use Rattle.zone_slots.specs.Calls.{zones_of, CountsOne}
use Rattle.zone_slots.specs.Places.{TakesPlaceFor, RefusesTakeAt}
use Rattle.zone_slots.specs.WrongTakes.{LiesFrom, IsHeldBack, LosesSome, LosesNowhere}
use Rattle.zone_slots.specs.declared.core_state.CoreState.{CoreState}

-- of a fresh memory no take of just one block answers one with a frame that the opening held back
abbrev pub PlaceFromBoot : Type 0
PlaceFromBoot = (n frame x : ℕ) (s t : CoreState) → IsHeldBack (zones_of s) x → LiesFrom frame n x
    → ¬ TakesPlaceFor n frame s t

-- none answers one with a frame that no zone has, in a hole or past the end
abbrev pub PlaceInAHole : Type 0
PlaceInAHole = (n frame x : ℕ) (s t : CoreState) → IsInNoZone (zones_of s) x → LiesFrom frame n x
    → ¬ TakesPlaceFor n frame s t

-- the core turned in a zone that does not have the frame
abbrev pub TurnsElsewhere : ℕ → CoreState → CoreState → Type 0
TurnsElsewhere frame s t = (z : ℕ) × (z < zone_count (zones_of s)) × IsNotIn (zones_of s) frame z
    × ((x : Core) → core_at t.core z x ≢ core_at s.core z x)

-- none turns the core in a zone that does not have its first frame, whatever it answers
abbrev pub PlaceElsewhere : Type 0
PlaceElsewhere = (n frame : ℕ) (s t : CoreState) (fault : TakeFault) → TurnsElsewhere frame s t
    → (¬ TakesPlaceFor n frame s t) × (¬ RefusesTakeAt n frame s t fault)

-- the memory has the block; the core alone steps there, and knows the words, by which no frame of it is held
pub record KnowsFree (a : Allocator) (b : FrameBlock) (c : Core) : Type 0 where
  pub has : HasSuchBlock (memory_of a) b
  pub alone : StepsAlone a c
  pub words : List ℕ
  pub known : known_by c ≡ Some words
  pub free : IsFreeIn (memory_of a) words b

-- the same of the zone that has the frame of this number, and of the block of the order that begins there
pub record KnowsFreePlace (zs : Zones) (n frame : ℕ) (c : ZoneCore) : Type 0 where
  pub zone : ℕ
  pub local : ℕ
  pub is_there : IsFrameIn zs frame zone local
  pub free : (a : Allocator) (x : Core) → KnowsFree (zone_at zs zone a) (block local n) (core_at c zone x)

-- none that counts no block without a slot is refused, for whatever reason, where the core knows that it is free
abbrev pub KnownPlaceIsRefused : Type 0
KnownPlaceIsRefused = (n frame : ℕ) (s t : CoreState) (fault : TakeFault) → KnowsFreePlace (zones_of s) n frame s.core
    → ¬ CountsOne s t → ¬ RefusesTakeAt n frame s t fault

-- none is refused for want of a block with a lost exchange
abbrev pub PlaceLossIsUntold : Type 0
PlaceLossIsUntold = (n frame : ℕ) (s t : CoreState) → LosesSome s t → ¬ RefusesTakeAt n frame s t NoBlock

-- none that counts no block without a slot says that it was contended, with no lost exchange
abbrev pub PlaceContendedForNothing : Type 0
PlaceContendedForNothing = (n frame : ℕ) (s t : CoreState) → ¬ CountsOne s t → LosesNowhere s t
    → ¬ RefusesTakeAt n frame s t Contended

-- none is refused for its order up to 9, and none above for want of a block
abbrev pub PlaceOrderIsAnother : Type 0
PlaceOrderIsAnother = (n frame : ℕ) (s t : CoreState)
    → (n ≤ huge_order → ¬ RefusesTakeAt n frame s t BadOrder)
    × (huge_order < n → (¬ RefusesTakeAt n frame s t NoBlock) × (¬ RefusesTakeAt n frame s t Contended))
