-- What clauses see of a core behind a handle.
use Rattle.std.specs.Prelude.{ℕ, Option, Some, None}
use Rattle.zone_slots.specs.Calls.{frames_by}
use Rattle.zone_slots.specs.declared.core_state.CoreState.{CoreState}

-- a core is behind the handle, and this is so of it
abbrev pub OnCore : (CoreState → Type 0) → Option CoreState → Type 0
OnCore holds (Some s) = holds s
OnCore holds None = ⊥

-- a core is behind both handles, and the two are related
abbrev pub OnCores : (CoreState → CoreState → Type 0) → Option CoreState → Option CoreState → Type 0
OnCores relates (Some s) (Some t) = relates s t
OnCores relates (Some s) None = ⊥
OnCores relates None t = ⊥

-- the frames of the memory of the core behind the handle, or 0
abbrev pub frames_behind : Option CoreState → ℕ
frames_behind (Some s) = frames_by s
frames_behind None = 0
