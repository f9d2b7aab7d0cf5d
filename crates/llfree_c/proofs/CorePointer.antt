-- How a `RawCore` is read and made.
use Rattle.std.proofs.Common.{refl}
use Rattle.zone_slots.specs.contracts.core_state.CoreState as held
use Rattle.llfree_c.specs.contracts.raw_core.RawCore.{the_type}
use Rattle.llfree_c.proofs.RawPointers.{Pointer}

abbrev pub pointer : Pointer held.the_row
pointer = record {
  struct = the_type;
  at = λ d. d.at;
  value = λ d. d.value;
  make = λ p x. record { at = p; value = x };
  at_made = λ p x. refl;
  value_made = λ p x. refl;
}
