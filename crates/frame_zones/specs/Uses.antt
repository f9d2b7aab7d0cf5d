-- What takes and gives through cores of all zones leave.
use Rattle.std.specs.Prelude.{◌≡◌, ℕ, ◌+◌, ◌<◌, ◌≤◌, Bool, true, false, Result, IfOk, IfErr}
use Rattle.std.specs.List.{sum_by}
use Rattle.frame_words.specs.declared.fault.TakeFault.{TakeFault}
use Rattle.frame_words.specs.declared.fault.TakeFault.TheVariants.{BadOrder, NoBlock, Contended}
use Rattle.frame_table.specs.Seats.{block_in}
use Rattle.core_frames.specs.declared.shared.allocator.Allocator.{Allocator}
use Rattle.core_frames.specs.declared.shared.allocator.Core.{Core}
use Rattle.core_frames.specs.Bounds.{most_moves}
use Rattle.core_frames.specs.Cores.{memory_of, kept_by, lent_by, moves_by, losses_by}
use Rattle.core_frames.specs.Uses.{HasTaken, HasMovedForEach, IsRefusedFor, HasGiven, GivesAlone}
use Rattle.frame_zones.specs.Zones.{zone_count, zone_at, core_at, InEach, IsOutOfItsZone, StayCoresOf}
use Rattle.frame_zones.specs.declared.zones.Zones.{Zones}
use Rattle.frame_zones.specs.declared.zones.ZoneCore.{ZoneCore}
use Rattle.frame_zones.specs.declared.block.GivenBlock.{GivenBlock}
use Rattle.frame_zones.specs.declared.block.ZoneBlock.{ZoneBlock}

-- the core of every other zone is as before
abbrev pub OthersStay : Zones → ℕ → ZoneCore → ZoneCore → Type 0
OthersStay zs z c d = (k : ℕ) (x : Core) → k < zone_count zs → ¬ (k ≡ z)
    → core_at d k x ≡ core_at c k x

-- a block of the zone was given; in the others, and where takes begin, all is as before
pub record GivesIn (zs : Zones) (z : ℕ) (c d : ZoneCore) : Type 0 where
  pub here : (x : Core) → HasGiven (core_at c z x) (core_at d z x)
  pub others : OthersStay zs z c d
  pub same_stays : d.stays ≡ c.stays

-- where nobody else steps in the zone of the block, its frames, held before, are free; every other of
-- the zone is as before
abbrev pub GivesAloneIn : Zones → ZoneBlock → ZoneCore → ZoneCore → Type 0
GivesAloneIn zs b c d = (a : Allocator) (x : Core)
    → GivesAlone (zone_at zs b.zone a) (block_in b.block) (core_at c b.zone x) (core_at d b.zone x)

-- what says that a block was given names this one
pub record IsGivenFor (b : ZoneBlock) (g : GivenBlock) : Type 0 where
  pub zone : g.zone ≡ b.zone
  pub frame : g.frame ≡ b.block.frame
  pub order : g.order ≡ b.block.order

-- what the core keeps is as before
abbrev pub KeepsAll : Allocator → Core → Core → Type 0
KeepsAll _ x y = kept_by y ≡ kept_by x

-- as many blocks are lent through the core as before
abbrev pub LendsSame : Allocator → Core → Core → Type 0
LendsSame _ x y = lent_by y ≡ lent_by x

-- the most moves of a take in this zone
abbrev pub most_moves_in : Allocator → ℕ
most_moves_in a = most_moves (memory_of a)

-- at most so many moves were made
abbrev pub MovesWithin : Allocator → Core → Core → Type 0
MovesWithin a x y = moves_by y ≤ moves_by x + most_moves_in a

-- at most so many moves were made in this zone
abbrev pub MovesAtMost : ℕ → ℕ → ZoneCore → ZoneCore → Type 0
MovesAtMost n z c d = (x : Core) → moves_by (core_at d z x) ≤ moves_by (core_at c z x) + n

-- how many moves were made through the core, in all zones
abbrev pub moves_through : ZoneCore → ℕ
moves_through c = sum_by moves_by c.cores.items

-- the most moves of a take, in all zones
abbrev pub most_moves_among : Zones → ℕ
most_moves_among zs = sum_by most_moves_in zs.zones.items

-- no exchange was lost
abbrev pub LosesNothing : Allocator → Core → Core → Type 0
LosesNothing _ x y = losses_by y ≡ losses_by x

-- an exchange was lost in this zone
abbrev pub LosesIn : ZoneCore → ZoneCore → ℕ → Type 0
LosesIn c d z = (x : Core) → losses_by (core_at c z x) < losses_by (core_at d z x)

-- a take in this zone alone
pub record TakesIn (zs : Zones) (z n : ℕ) (answer : Result ZoneBlock TakeFault) (c d : ZoneCore)
    : Type 0 where
  pub kept : (x : Core) → kept_by (core_at d z x) ≡ kept_by (core_at c z x)
  pub others : OthersStay zs z c d
  pub moves : (a : Allocator) (x : Core) → MovesWithin (zone_at zs z a) (core_at c z x) (core_at d z x)
  pub ok : IfOk answer (λ b. (b.zone ≡ z) × ((a : Allocator) (x : Core)
      → HasTaken (zone_at zs z a) n b.block (core_at c z x) (core_at d z x)))
  pub err : IfErr answer (λ fault. (a : Allocator) (x : Core)
      → IsRefusedFor (zone_at zs z a) n (core_at c z x) (core_at d z x) fault
      × (lent_by (core_at d z x) ≡ lent_by (core_at c z x)))

-- a block of the order is out in the zone that it names, and one block more is lent there and in no
-- other zone
pub record HasTakenIn (zs : Zones) (n : ℕ) (b : ZoneBlock) (c d : ZoneCore) : Type 0 where
  pub is_out : IsOutOfItsZone zs b
  pub here : (a : Allocator) (x : Core)
      → HasTaken (zone_at zs b.zone a) n b.block (core_at c b.zone x) (core_at d b.zone x)
  pub others : (k : ℕ) (x : Core) → k < zone_count zs → ¬ (k ≡ b.zone)
      → lent_by (core_at d k x) ≡ lent_by (core_at c k x)

-- why a take of an order was refused: there is none of that order, and no move was made; or each
-- tree of each zone was looked at, and no exchange was lost in this call, or one was
abbrev pub AreRefusedFor : Zones → ℕ → ZoneCore → ZoneCore → TakeFault → Type 0
AreRefusedFor zs n c d BadOrder = (9 < n) × (d ≡ c)
AreRefusedFor zs n c d NoBlock =
    InEach zs (λ a. HasMovedForEach a n) c d × InEach zs LosesNothing c d
AreRefusedFor zs n c d Contended =
    InEach zs (λ a. HasMovedForEach a n) c d × ((z : ℕ) × (z < zone_count zs) × LosesIn c d z)

-- a take of a block of the order: one is out and lent, or it is refused and nothing is; what the
-- cores keep is as before
pub record TakesAmong (zs : Zones) (n : ℕ) (answer : Result ZoneBlock TakeFault) (c d : ZoneCore)
    : Type 0 where
  pub kept : InEach zs KeepsAll c d
  pub moves : InEach zs MovesWithin c d
  pub ok : IfOk answer (λ b. HasTakenIn zs n b c d)
  pub err : IfErr answer (λ fault. AreRefusedFor zs n c d fault × InEach zs LendsSame c d)

-- of the zones that were looked at none had a block, an exchange was lost there or not, and the others
-- were left alone
pub record HadNone (zs : Zones) (Seen : ℕ → Type 0) (n : ℕ) (lost : Bool) (c d : ZoneCore) : Type 0 where
  pub stay : StayCoresOf zs c d
  pub kept : InEach zs KeepsAll c d
  pub lent : InEach zs LendsSame c d
  pub moves : InEach zs MovesWithin c d
  pub seen : (z : ℕ) (a : Allocator) (x : Core) → Seen z → z < zone_count zs
      → HasMovedForEach (zone_at zs z a) n (core_at c z x) (core_at d z x)
  pub calm : lost ≡ false → InEach zs LosesNothing c d
  pub missed : lost ≡ true → (z : ℕ) × (z < zone_count zs) × LosesIn c d z
  pub unseen : (z : ℕ) (x : Core) → z < zone_count zs → ¬ Seen z → core_at d z x ≡ core_at c z x

-- with what came before, of which this zone had no block, it is a take among all zones
abbrev pub TakesOn : Zones → ℕ → ℕ → Bool → Result ZoneBlock TakeFault → ZoneCore → ZoneCore → Type 0
TakesOn zs n first lost answer d e =
    (c : ZoneCore) → HadNone zs (λ z. z ≡ first) n lost c d → TakesAmong zs n answer c e
