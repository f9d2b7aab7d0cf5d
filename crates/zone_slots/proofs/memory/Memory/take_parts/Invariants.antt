use Rattle.frame_zones.specs.Uses.{KeepsAll}
use Rattle.frame_zones.specs.Zones.{InEach, AreCoresOf}
use Rattle.zone_slots.specs.Parts.{AreMore}
use Rattle.zone_slots.specs.Runs.{TakesRunInZone, EndsAtMost}
use Rattle.zone_slots.proofs.memory.Memory.take_parts.Given as goal

abbrev pub invariant-loop-i : goal.invariant-loop-i
invariant-loop-i l = record {
  cores : AreCoresOf l.self.zones l.core;
  kept : InEach l.self.zones KeepsAll l.fn.core l.core;
  parts : AreMore l.i l.fn.parts l.parts;
  taken : TakesRunInZone l.self.zones l.i l.fn.core l.core l.fn.parts.zone l.fn.parts.frame;
  end : EndsAtMost l.parts;
}
