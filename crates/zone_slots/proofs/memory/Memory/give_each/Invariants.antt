use Rattle.std.specs.Prelude.{◌≡◌}
use Rattle.frame_zones.specs.Zones.{AreCoresOf}
use Rattle.zone_slots.specs.Runs.{GivesRunInZone}
use Rattle.zone_slots.proofs.memory.Memory.give_each.Given as goal

abbrev pub invariant-loop-i : goal.invariant-loop-i
invariant-loop-i l = record {
  cores : AreCoresOf l.self.zones l.core;
  seen : l.run.seen ≡ l.fn.seen;
  count : l.run.count ≡ l.i;
  given : GivesRunInZone l.self.zones l.i l.fn.core l.core l.zone l.local;
}
