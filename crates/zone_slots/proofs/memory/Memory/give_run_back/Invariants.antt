use Rattle.std.specs.Prelude.{◌≡◌, ◌+◌}
use Rattle.frame_zones.specs.Uses.{KeepsAll}
use Rattle.frame_zones.specs.Zones.{InEach, AreCoresOf}
use Rattle.zone_slots.specs.Runs.{LendsFewer}
use Rattle.zone_slots.proofs.memory.Memory.give_run_back.Given as goal

abbrev pub invariant-loop-i : goal.invariant-loop-i
invariant-loop-i l = record {
  cores : AreCoresOf l.self.zones l.core;
  kept : InEach l.self.zones KeepsAll l.fn.core l.core;
  parts : l.back.parts ≡ l.fn.parts;
  all : l.back.given + l.back.missed ≡ l.i;
  lent : LendsFewer l.self.zones l.back.given l.fn.core l.core l.zone;
}
