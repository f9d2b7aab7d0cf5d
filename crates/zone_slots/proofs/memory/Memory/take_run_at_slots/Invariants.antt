use Rattle.std.specs.Prelude.{◌≡◌, ◌⊎◌, ◌+◌, ◌-◌, ◌≤◌}
use Rattle.frame_zones.specs.Uses.{KeepsAll}
use Rattle.frame_zones.specs.Zones.{InEach, AreCoresOf}
use Rattle.zone_slots.specs.Layouts.{most_numbers}
use Rattle.zone_slots.specs.Runs.{IsBehindRun}
use Rattle.zone_slots.specs.Uses.{EachLendsSame}
use Rattle.zone_slots.proofs.memory.Memory.take_run_at_slots.Given as goal

abbrev pub invariant-loop-first : goal.invariant-loop-first
invariant-loop-first l = record {
  cores : AreCoresOf l.self.zones l.core;
  kept : InEach l.self.zones KeepsAll l.fn.core l.core;
  lent : EachLendsSame l.self.zones l.fn.core l.core;
  counted : l.slotless ≡ l.fn.slotless;
  begins : ((l.from ≡ 0) × (l.core ≡ l.fn.core)) ⊎ IsBehindRun l.self.zones l.count l.from;
  few : l.from ≤ most_numbers;
}

abbrev pub decreases-loop-first : goal.decreases-loop-first
decreases-loop-first l = most_numbers + 1 - l.from
