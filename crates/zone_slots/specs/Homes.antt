-- How many zones there are, and the home zone of a core.
use Rattle.std.specs.Prelude.{◌≡◌, ℕ, ◌≤◌}
use Rattle.frame_words.specs.declared.fault.Fault.{Fault}
use Rattle.frame_words.specs.declared.fault.Fault.TheVariants.{BadRange}
use Rattle.frame_zones.specs.Homes.{MovesHome}
use Rattle.frame_zones.specs.Zones.{zone_count}
use Rattle.zone_slots.specs.Calls.{zones_of, last_given, last_halves}
use Rattle.zone_slots.specs.FreeCounts.{LaysNone}
use Rattle.zone_slots.specs.declared.core_state.CoreState.{CoreState}

-- how many zones the memory of the core has
abbrev pub zones_by : CoreState → ℕ
zones_by s = zone_count (zones_of s)

-- the home zone of the core
abbrev pub home_by : CoreState → ℕ
home_by s = s.core.home

-- the home of the core is this zone, and no order stays in another one; its part in each zone, what it remembers, what
-- it has counted and what rests with it are as before
pub record MovesHomeTo (z : ℕ) (s t : CoreState) : Type 0 where
  pub home : MovesHome z s.core t.core
  pub lays : LaysNone s t
  pub given : last_given t ≡ last_given s
  pub halves : last_halves t ≡ last_halves s

-- why the home is not moved to this zone: there is none of the number, and nothing changes
pub record HasNoZone (z : ℕ) (s t : CoreState) (fault : Fault) : Type 0 where
  pub why : fault ≡ BadRange
  pub none : zones_by s ≤ z
  pub same : t ≡ s
