use Rattle.std.proofs.Common.{◌≡◌, ◌*◌, ◌≤◌}
use Rattle.zone_slots.specs.ImageParts.{numbers_before}
use Rattle.zone_slots.proofs.memory.Memory.image_numbers.Given as goal

abbrev pub invariant-loop-frames : goal.invariant-loop-frames
invariant-loop-frames l = record {
  sum : l.sum ≡ numbers_before l.self.zones l.frames-index;
  bound : l.sum ≤ 36864 * l.frames-index;
}
