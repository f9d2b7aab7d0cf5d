use Rattle.std.specs.Prelude.{◌≡◌}
use Rattle.frame_zones.specs.Frames.{IsFrameIn}
use Rattle.zone_slots.proofs.memory.Memory.run_at.Given as goal

abbrev pub invariant-loop-i : goal.invariant-loop-i
invariant-loop-i l = record {
  begins : IsFrameIn l.self.zones l.frame l.zone l.local;
  zone : l.seen.zone ≡ l.zone;
  frame : l.seen.frame ≡ l.local;
  count : l.seen.count ≡ l.i;
}
