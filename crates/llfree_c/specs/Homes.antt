-- How many zones are behind handles, and the home zones of cores there.
use Rattle.std.specs.Prelude.{◌≡◌, ℕ, ◌≤◌, Option, Some, None}
use Rattle.zone_slots.specs.Homes.{zones_by, home_by}
use Rattle.zone_slots.specs.declared.core_state.CoreState.{CoreState}

-- how many zones the memory of the core behind the handle has, or 0
abbrev pub zones_behind : Option CoreState → ℕ
zones_behind (Some s) = zones_by s
zones_behind None = 0

-- the home zone of the core behind the handle, or 0
abbrev pub home_behind : Option CoreState → ℕ
home_behind (Some s) = home_by s
home_behind None = 0

-- there is no zone of this number, and what is behind the handle is as before
pub record HasNoZoneBehind (z : ℕ) (old new : Option CoreState) : Type 0 where
  pub none : zones_behind old ≤ z
  pub same : new ≡ old
