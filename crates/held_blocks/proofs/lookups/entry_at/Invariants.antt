use Rattle.std.proofs.Common.{◌≡◌, ◌≤◌, length, take}
use Rattle.held_blocks.specs.Slots.{held}
use Rattle.held_blocks.proofs.lookups.entry_at.Given as goal

abbrev pub invariant-loop-slot : goal.invariant-loop-slot
invariant-loop-slot l = (l.seen ≡ length (held (take l.slot-index l.slots))) × (l.seen ≤ l.place)
