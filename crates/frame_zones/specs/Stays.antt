-- In which zone takes of an order begin, and for how long.
use Rattle.std.specs.Prelude.{◌≡◌, ℕ, ◌+◌, ◌-◌, ◌<◌, ◌≤◌, Result, IfOk, IfErr, slice_index_or}
use Rattle.frame_words.specs.Geometry.{huge_order}
use Rattle.frame_words.specs.declared.fault.TakeFault.{TakeFault}
use Rattle.core_frames.specs.declared.shared.allocator.Allocator.{Allocator}
use Rattle.core_frames.specs.declared.shared.allocator.Core.{Core}
use Rattle.core_frames.specs.Uses.{HasMovedForEach}
use Rattle.frame_zones.specs.Zones.{zone_count, zone_at, core_at}
use Rattle.frame_zones.specs.declared.zones.Zones.{Zones}
use Rattle.frame_zones.specs.declared.zones.ZoneCore.{ZoneCore}
use Rattle.frame_zones.specs.declared.zones.Stay.{Stay}
use Rattle.frame_zones.specs.declared.block.ZoneBlock.{ZoneBlock}

-- how many takes of an order begin in a zone that served one after the first zone had none
abbrev pub longest_stay : ℕ
longest_stay = 1024

-- the stay of an order; past the last order, none
abbrev pub stay_of : ℕ → ZoneCore → Stay
stay_of n c = slice_index_or c.stays n (record { zone = 0; left = 0 })

-- takes are left to the stay, and its zone is one of these
abbrev pub Lasts : ℕ → Stay → Type 0
Lasts count s = (0 < s.left) × (s.zone < count)

-- a take begins in this zone: in that of the stay while it lasts, else at home
pub record TakesBeginIn (count home : ℕ) (s : Stay) (z : ℕ) : Type 0 where
  pub in_stay : Lasts count s → z ≡ s.zone
  pub at_home : ¬ Lasts count s → z ≡ home

-- k takes fewer are left to the stay
pub record IsShorterBy (k : ℕ) (s t : Stay) : Type 0 where
  pub zone : t.zone ≡ s.zone
  pub left : t.left ≡ s.left - k

-- a take fewer is left to a stay that lasts, and any other is as before
pub record IsUsed (count : ℕ) (s t : Stay) : Type 0 where
  pub shorter : Lasts count s → IsShorterBy 1 s t
  pub same : ¬ Lasts count s → t ≡ s

-- the longest stay in this zone
pub record IsWholeStay (z : ℕ) (s : Stay) : Type 0 where
  pub zone : s.zone ≡ z
  pub left : s.left ≡ longest_stay

-- a take of the order began in this zone: where it had a block, or no zone had one, the stay is used; where another
-- zone had one, each tree of the first was looked at, and takes of the order stay in the other
pub record BeganIn (zs : Zones) (n first : ℕ) (answer : Result ZoneBlock TakeFault) (c d : ZoneCore) : Type 0 where
  pub begins : TakesBeginIn (zone_count zs) c.home (stay_of n c) first
  pub there : IfOk answer (λ b. b.zone ≡ first → IsUsed (zone_count zs) (stay_of n c) (stay_of n d))
  pub looked : IfOk answer (λ b. ¬ (b.zone ≡ first) → (a : Allocator) (x : Core)
      → HasMovedForEach (zone_at zs first a) n (core_at c first x) (core_at d first x))
  pub elsewhere : IfOk answer (λ b. ¬ (b.zone ≡ first) → IsWholeStay b.zone (stay_of n d))
  pub nowhere : IfErr answer (λ _. IsUsed (zone_count zs) (stay_of n c) (stay_of n d))

-- a take began where takes of its order begin, and the stays of other orders are as before; where there is no such
-- order all is as before
pub record BeginsAndStays (zs : Zones) (n : ℕ) (answer : Result ZoneBlock TakeFault) (c d : ZoneCore) : Type 0 where
  pub began : n ≤ huge_order → (first : ℕ) × BeganIn zs n first answer c d
  pub others : (k : ℕ) → ¬ (k ≡ n) → stay_of k d ≡ stay_of k c
  pub none : huge_order < n → d ≡ c

-- a take went past its first zone, which is as before: takes of the order stay in the zone that had a block, or each
-- stay is as before where none had one
pub record GoesPast (n first : ℕ) (answer : Result ZoneBlock TakeFault) (c d : ZoneCore) : Type 0 where
  pub alone : (x : Core) → core_at d first x ≡ core_at c first x
  pub ok : IfOk answer (λ b. ¬ (b.zone ≡ first) × IsWholeStay b.zone (stay_of n d))
  pub err : IfErr answer (λ _. stay_of n d ≡ stay_of n c)
  pub others : (k : ℕ) → ¬ (k ≡ n) → stay_of k d ≡ stay_of k c

-- k single frames come from the zone where takes of order 0 begin, and each counts as a take; the stays of other
-- orders are as before
pub record CountsAsTakes (zs : Zones) (z k : ℕ) (c d : ZoneCore) : Type 0 where
  pub begins : TakesBeginIn (zone_count zs) c.home (stay_of 0 c) z
  pub shorter : IsShorterBy k (stay_of 0 c) (stay_of 0 d)
  pub others : (n : ℕ) → ¬ (n ≡ 0) → stay_of n d ≡ stay_of n c

-- behind a take that another zone served the next 1,024 of the order begin there, unless one of them is served
-- elsewhere, and the one behind these begins at home; between two of them may come whatever leaves the order's stay
-- as it is, as gives and takes of other orders do
abbrev pub StayInNumbers : Type 0
StayInNumbers = (zs : Zones) (n z : ℕ) (answers : ℕ → Result ZoneBlock TakeFault) (before after : ℕ → ZoneCore)
    → n ≤ 9 → z < zone_count zs → IsWholeStay z (stay_of n (before 0))
    → ((k : ℕ) → k < 1024 → BeginsAndStays zs n (answers k) (before k) (after k)
    × IfOk (answers k) (λ b. b.zone ≡ z) × (stay_of n (before (k + 1)) ≡ stay_of n (after k)))
    → ((k : ℕ) → k < 1024 → TakesBeginIn (zone_count zs) (before k).home (stay_of n (before k)) z)
    × TakesBeginIn (zone_count zs) (before 1024).home (stay_of n (before 1024)) (before 1024).home
