use Rattle.std.specs.Prelude.{true}
use Rattle.zone_slots.proofs.Opened.{slotted}
use Rattle.zone_slots.proofs.openings.open_memory.Goals as goal

pub of-memory-requires-clause-slots : goal.of-memory-requires-clause-slots
of-memory-requires-clause-slots c = slotted true c.in_ok-zones.zones c.in_ok-slots.slots.items c.in_ok-slots.ensures.lists
