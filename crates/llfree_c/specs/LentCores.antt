-- What a pointer owns once the core that it lent is back.
use Rattle.std.specs.Prelude.{Some}
use Rattle.std.specs.Borrow.{Lends, MutBor, Fml}
use Rattle.zone_slots.specs.declared.core_state.CoreState.{CoreState}
use Rattle.zone_slots.specs.contracts.core_state.CoreState as core
use Rattle.llfree_c.specs.declared.raw_core.RawCore.{RawCore}
use Rattle.llfree_c.specs.contracts.raw_core.RawCore.{the_row}

-- the same pointer, with this core behind it
abbrev pub with_core : RawCore → CoreState → RawCore
with_core p s = record { at = p.at; value = Some s }

-- behind the pointer lies what is left of the core that it lent
abbrev pub LendsCore : MutBor RawCore → MutBor CoreState → Fml
LendsCore p s = Lends the_row core.the_row p s (with_core p.now)
