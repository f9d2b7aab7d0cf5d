use Rattle.std.specs.Prelude.{◌≡◌, ◌-◌, length, take}
use Rattle.zone_slots.specs.Resting.{LendAsManyBesides}
use Rattle.zone_slots.proofs.memory.Memory.give_last.Given as goal

abbrev pub invariant-loop-i : goal.invariant-loop-i
invariant-loop-i l = LendAsManyBesides l.self.zones l.fn.core l.fn.rest.list.items l.core l.rest.list.items
    × (l.rest.list.items ≡ take (length l.fn.rest.list.items - l._i) l.fn.rest.list.items)
